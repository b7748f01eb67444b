-- The forms of a program are put together from the last one on.
use Rattle.std.proofs.Common.{◌≡◌, List, [], ◌∷◌, ◌++◌, map, refl, sym, ap, ◌∙◌}
use Rattle.surface_syntax.specs.declared.tops.Part.{Part as RustPart}
use Rattle.derived_forms.specs.Expansion.{Part, Rest, closed, before, ending, joined, whole}
use Rattle.surface_syntax.specs.TopParts.{part_of}
use Rattle.surface_syntax.proofs.Rows.{last_part}

-- these forms, one before the other, before a rest
abbrev pub onto : List Part → Rest → Rest
onto [] rest = rest
onto (part ∷ others) rest = before part (onto others rest)

joined_last : (part : Part) (others : List Part) (last : Part)
    → joined part (others ++ last ∷ []) ≡ before part (onto others (ending last))
joined_last part [] last = refl
joined_last part (other ∷ others) last = ap (before part) (joined_last other others last)

whole_last : (parts : List Part) (last : Part) → closed (onto parts (ending last)) ≡ whole (parts ++ last ∷ [])
whole_last [] last = refl
whole_last (part ∷ parts) last = ap closed (sym (joined_last part parts last))

onto_push : (parts : List Part) (part : Part) (rest : Rest)
    → onto (parts ++ part ∷ []) rest ≡ onto parts (before part rest)
onto_push [] part rest = refl
onto_push (p ∷ parts) part rest = ap (before p) (onto_push parts part rest)

-- the last form ends the program
pub ends : (all parts : List RustPart) (last : RustPart) (rest : Rest) → all ≡ parts ++ last ∷ []
    → rest ≡ ending (part_of last) → closed (onto (map part_of parts) rest) ≡ whole (map part_of all)
ends all parts last rest e f =
    ap (λ r. closed (onto (map part_of parts) r)) f
    ∙ whole_last (map part_of parts) (part_of last)
    ∙ sym (ap (λ ps. whole (map part_of ps)) e ∙ ap whole (last_part parts last))

-- the last of these forms stands before the rest
pub stands_before : (all parts : List RustPart) (part : RustPart) (rest next : Rest) → all ≡ parts ++ part ∷ []
    → next ≡ before (part_of part) rest → closed (onto (map part_of parts) next) ≡ closed (onto (map part_of all) rest)
stands_before all parts part rest next e f =
    ap (λ r. closed (onto (map part_of parts) r)) f
    ∙ ap closed (sym (ap (λ ps. onto (map part_of ps) rest) e ∙ ap (λ ps. onto ps rest) (last_part parts part)
    ∙ onto_push (map part_of parts) (part_of part) rest))
