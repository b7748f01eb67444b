use Rattle.std.proofs.Common.{ℕ, ◌≡◌, ◌++◌, List, length, take, drop, arith}
use Rattle.std.proofs.Common.{length-append, length-drop}
use Rattle.std.proofs.lemmas.List.{length-take-le}
use Rattle.rv_emulator.proofs.flat.FlatRamRam.store.Goals as goal

-- bytes that are as many as before, written over them
as_many : (n : ℕ) (new old : List ℕ) → n ≡ length old → length new ≡ n
    → length (take n (new ++ drop (length new) old)) ≡ length old
as_many n new old e f =
    let l = length-append new (drop (length new) old) in
    let d = length-drop (length new) old in
    omega (arith, length-take-le n (new ++ drop (length new) old) (omega arith))

pub returns-in-B1-clause-len : goal.returns-in-B1-clause-len
returns-in-B1-clause-len c = as_many _ _ _ (omega arith) (omega arith)

pub returns-in-B2-clause-len : goal.returns-in-B2-clause-len
returns-in-B2-clause-len c = as_many _ _ _ (omega arith) (omega arith)

pub returns-in-B4-clause-len : goal.returns-in-B4-clause-len
returns-in-B4-clause-len c = as_many _ _ _ (omega arith) (omega arith)

pub returns-in-B8-clause-len : goal.returns-in-B8-clause-len
returns-in-B8-clause-len c = as_many _ _ _ (omega arith) (omega arith)
