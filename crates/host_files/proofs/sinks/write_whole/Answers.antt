use Rattle.std.proofs.Common.{ℕ, ◌≡◌, ◌+◌, ◌-◌, ◌++◌, List, length, take, drop, rules, ap, sym, ◌∙◌, subst}
use Rattle.std.proofs.lemmas.List.{take_rest}
use Rattle.std.proofs.Math.Seq.{take-add}
use Rattle.std.specs.Io.KnownBytes.{Appends}
use Rattle.std.proofs.KnownBytes.{Appends-trans}
use Rattle.host_files.proofs.sinks.write_whole.Goals as goal

-- some of the rest, after the bytes that are done, makes more bytes that are done
takes_more : (bytes : List ℕ) (done count : ℕ) →
    take done bytes ++ take count (take (length bytes - done) (drop done bytes)) ≡ take (done + count) bytes
takes_more bytes done count =
    ap (λ rest. take done bytes ++ take count rest) (take_rest bytes done) ∙ sym (take-add done count bytes)

pub loop-preserved : goal.loop-preserved
loop-preserved g c =
    let (within, written) = c.loop.invariant in
    (search rules, subst (Appends _ _) (takes_more _ _ _) (Appends-trans _ _ _ _ _ written c.in-Ok.ensures.bytes))
