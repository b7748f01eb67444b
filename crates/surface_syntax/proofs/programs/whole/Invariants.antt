use Rattle.std.proofs.Common.{◌≡◌, map, vec_len}
use Rattle.derived_forms.specs.Expansion.{closed, whole}
use Rattle.surface_syntax.specs.TopParts.{part_of, rest_of}
use Rattle.surface_syntax.proofs.Joined.{onto}
use Rattle.surface_syntax.proofs.programs.whole.Given as goal

-- what is left of the forms, before the rest, is the whole program
abbrev pub invariant-loop-part : goal.invariant-loop-part
invariant-loop-part l = closed (onto (map part_of l.parts.items) (rest_of l.rest)) ≡ whole (map part_of
    l.fn.parts.items)

abbrev pub decreases-loop-part : goal.decreases-loop-part
decreases-loop-part l = vec_len l.parts
