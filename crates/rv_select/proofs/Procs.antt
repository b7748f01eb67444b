-- The items of procedures, put one after another.
use Rattle.std.proofs.Common.{ℕ, ◌+◌, ◌≡◌, List, [], ◌∷◌, ◌++◌, refl, sym, ◌∙◌, ap}
use Rattle.std.proofs.Common.{arith, length, drop}
use Rattle.std.proofs.Math.Seq.{drop-length}
use Rattle.std.proofs.lemmas.List.{length-map}
use Rattle.low_ir.specs.declared.programs.LowProc.{LowProc}
use Rattle.low_ir.specs.Views.{proc_of, procs_of}
use Rattle.rv_select.specs.declared.code.VirtualItem.{VirtualItem}
use Rattle.rv_select.specs.declared.code.VirtualItem.TheVariants.{Call}
use Rattle.rv_select.specs.Select.{procs_items, answer_items, select_items, registers_of}

-- before the first procedure
pub starts : (entry count : ℕ) (procs : List LowProc) (items : List VirtualItem) → count ≡ length procs
    → items ≡ Call entry 0 ∷ answer_items
    → items ++ procs_items 0 0 count (procs_of procs) ≡ select_items entry (procs_of procs)
starts entry count procs items c e =
    let many : count ≡ length (procs_of procs) = c ∙ sym (length-map procs proc_of) in
    ap (λ xs. xs ++ procs_items 0 0 count (procs_of procs)) e
    ∙ ap (λ n. (Call entry 0 ∷ answer_items) ++ procs_items 0 0 n (procs_of procs)) many

-- behind the last
pub all_put : (r m : ℕ) (n : ℕ) (procs : List LowProc) (items all : List VirtualItem) → n ≡ length procs
    → items ++ procs_items n r m (procs_of (drop n procs)) ≡ all → items ≡ all
all_put r m n procs items all e k =
    let none : drop n procs ≡ [] = ap (λ j. drop j procs) e ∙ drop-length procs in
    sym (append_nil items) ∙ (sym (ap (λ ps. items ++ procs_items n r m (procs_of ps)) none) ∙ k)
  where
    append_nil : (xs : List VirtualItem) → xs ++ [] ≡ xs
    append_nil [] = refl
    append_nil (x ∷ xs) = ap (λ ys. x ∷ ys) (append_nil xs)

-- and all registers are counted
pub all_counted : (r n : ℕ) (procs : List LowProc) (all : ℕ) → n ≡ length procs
    → r + registers_of (procs_of (drop n procs)) ≡ all → r ≡ all
all_counted r n procs all e k =
    let none : drop n procs ≡ [] = ap (λ j. drop j procs) e ∙ drop-length procs in
    let now : r + 0 ≡ all = sym (ap (λ ps. r + registers_of (procs_of ps)) none) ∙ k in
    omega (arith, now)
