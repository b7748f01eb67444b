-- A procedure of a selected code has as many registers as one of the program has words.
use Rattle.std.proofs.Common.{ℕ, zero, suc, ◌+◌, ◌≡◌, refl, Bool, true, false, List, [], ◌∷◌, ◌++◌, Some, length}
use Rattle.std.specs.Prelude.{slice_get}
use Rattle.low_ir.specs.declared.code.WordOp.{WordOp}
use Rattle.low_ir.specs.declared.code.LowSource.{LowSource}
use Rattle.low_ir.specs.declared.code.LowSource.TheVariants.{Word, Number}
use Rattle.low_ir.specs.Procedures.{Code, Done, Set, Compute as LowCompute, Load as LowLoad, Store as LowStore}
use Rattle.low_ir.specs.Procedures.{CodeOf as LowCodeOf, Build, Request, Take, Environment as LowEnvironment}
use Rattle.low_ir.specs.Procedures.{Call as LowCall, CallAt as LowCallAt, If, Return as LowReturn}
use Rattle.low_ir.specs.Procedures.{TailCall as LowTailCall, TailCallAt as LowTailCallAt, Proc}
use Rattle.rv_select.specs.declared.code.VReg.{VReg}
use Rattle.rv_select.specs.declared.code.VirtualItem.{VirtualItem}
use Rattle.rv_select.specs.declared.code.VirtualItem.TheVariants.{Procedure}
use Rattle.rv_select.specs.Select.{put_item, source_items, is_small, second_items, compute_item, args_items}
use Rattle.rv_select.specs.Select.{params_items, stores_items, marks_in, code_items, out_items, body_items, procs_items}
use Rattle.rv_select.specs.Select.{answer_items, select_items}

-- none of these items is a procedure
abbrev NoProcs : List VirtualItem → Type 0
NoProcs [] = Unit {0}
NoProcs (Procedure k first count ∷ xs) = ⊥
NoProcs (x ∷ xs) = NoProcs xs

joined : (xs ys : List VirtualItem) → NoProcs xs → NoProcs ys → NoProcs (xs ++ ys)
joined [] ys h k = k
joined (Procedure i first count ∷ xs) ys h k = absurd h
joined (x ∷ xs) ys h k = joined xs ys h k

put : (first : ℕ) (rd : VReg) (a : LowSource) (xs : List VirtualItem) → NoProcs xs
    → NoProcs (put_item first rd a ∷ xs)
put first rd (Word i) xs h = h
put first rd (Number n) xs h = h

source : (r : ℕ) (a : LowSource) → NoProcs (source_items r a)
source r (Word i) = tt
source r (Number zero) = tt
source r (Number (suc n)) = tt

second : (c : Bool) (b : LowSource) → NoProcs (second_items c b)
second true b = tt
second false b = source 6 b

computes : (c : Bool) (first : ℕ) (op : WordOp) (rd : VReg) (a b : LowSource) (xs : List VirtualItem) → NoProcs xs
    → NoProcs (compute_item c first op rd a b ∷ xs)
computes true first op rd a b xs h = h
computes false first op rd a b xs h = h

handed : (first from : ℕ) (args : List LowSource) → NoProcs (args_items first from args)
handed first from [] = tt
handed first from (a ∷ args) = put first _ a (args_items first (suc from) args) (handed first (suc from) args)

params : (first from n : ℕ) → NoProcs (params_items first from n)
params first from zero = tt
params first from (suc n) = params first (suc from) n

stores : (first offset : ℕ) (args : List LowSource) → NoProcs (stores_items first offset args)
stores first offset [] = tt
stores first offset (a ∷ args) = joined (source_items 5 a) _ (source 5 a) (stores first (offset + 8) args)

module _ (first out : ℕ) where
  in_code : (m : ℕ) (code : Code) → NoProcs (code_items first out m code)
  in_code m Done = tt
  in_code m (Set d a rest) = put first _ a (code_items first out m rest) (in_code m rest)
  in_code m (LowCompute op d a b rest) =
      joined (source_items 5 a) _ (source 5 a) (joined (second_items (is_small op b) b) _ (second (is_small op b) b)
      (computes (is_small op b) first op _ a b (code_items first out m rest) (in_code m rest)))
  in_code m (LowLoad d a offset rest) = joined (source_items 5 a) _ (source 5 a) (in_code m rest)
  in_code m (LowStore b a offset rest) =
      joined (source_items 5 a) _ (source 5 a) (joined (source_items 6 b) _ (source 6 b) (in_code m rest))
  in_code m (LowCodeOf d k rest) = in_code m rest
  in_code m (Build d args rest) = joined (stores_items first 0 args) _ (stores first 0 args) (in_code m rest)
  in_code m (Request d a rest) = joined (source_items 7 a) _ (source 7 a) (in_code m rest)
  in_code m (Take a rest) = joined (source_items 7 a) _ (source 7 a) (in_code m rest)
  in_code m (LowEnvironment number a b d e rest) = put first _ a _ (put first _ b _ (in_code m rest))
  in_code m (LowCall d k args rest) = joined (args_items first 0 args) _ (handed first 0 args) (in_code m rest)
  in_code m (LowCallAt d f args rest) =
      joined (source_items 7 f) _ (source 7 f)
      (joined (args_items first 0 args) _ (handed first 0 args) (in_code m rest))
  in_code m (If cond a b one other rest) =
      joined (source_items 5 a) _ (source 5 a) (joined (source_items 6 b) _ (source 6 b)
      (joined (code_items first out (suc (suc m)) other) _ (in_code (suc (suc m)) other)
      (joined (code_items first out (suc (suc m) + marks_in other) one) _
      (in_code (suc (suc m) + marks_in other) one)
      (in_code (suc (suc m) + marks_in other + marks_in one) rest))))
  in_code m (LowReturn a) = put first _ a _ tt
  in_code m (LowTailCall k args) = joined (args_items first 0 args) _ (handed first 0 args) tt
  in_code m (LowTailCallAt f args) =
      joined (source_items 7 f) _ (source 7 f) (joined (args_items first 0 args) _ (handed first 0 args) tt)

in_body : (first mark : ℕ) (p : Proc) → NoProcs (body_items first mark p)
in_body first mark p =
    joined (params_items first 0 p.params) _ (params first 0 p.params)
    (joined (code_items first mark (suc mark) p.code) (out_items mark) (in_code first mark (suc mark) p.code) tt)

-- a procedure stands behind items of which none is one
behind : (xs ys : List VirtualItem) (place k first count : ℕ) → NoProcs xs
    → slice_get (xs ++ ys) place ≡ Some (Procedure k first count)
    → (q : ℕ) × (slice_get ys q ≡ Some (Procedure k first count))
behind [] ys place k first count h e = (place, e)
behind (Procedure i f c ∷ xs) ys place k first count h e = absurd h
behind (x ∷ xs) ys zero k first count h e = absurd (let z : ⊥ = cc in z)
behind (x ∷ xs) ys (suc place) k first count h e = behind xs ys place k first count h e

-- a procedure with so many words
abbrev pub HasWords : List Proc → ℕ → Type 0
HasWords procs count = (j : ℕ) × (q : Proc) × (slice_get procs j ≡ Some q) × (q.words ≡ count)

in_procs : (ps : List Proc) (from reg mark place k first count : ℕ)
    → slice_get (procs_items from reg mark ps) place ≡ Some (Procedure k first count) → HasWords ps count
in_procs [] from reg mark place k first count e = absurd (let z : ⊥ = cc in z)
in_procs (p ∷ ps) from reg mark zero k first count e = (0, p, refl, cc)
in_procs (p ∷ ps) from reg mark (suc place) k first count e =
    let on = behind (body_items reg mark p) (procs_items (suc from) (reg + p.words) (suc mark + marks_in p.code) ps)
    place k first count (in_body reg mark p) e in
    let there = in_procs ps (suc from) (reg + p.words) (suc mark + marks_in p.code) on.0 k first count on.1 in
    (suc there.0, there.1, there.2, there.3)

pub procedure_words : (procs : List Proc) (entry place k first count : ℕ)
    → slice_get (select_items entry procs) place ≡ Some (Procedure k first count) → HasWords procs count
procedure_words procs entry zero k first count e = absurd (let z : ⊥ = cc in z)
procedure_words procs entry (suc place) k first count e =
    let on = behind answer_items (procs_items 0 0 (length procs) procs) place k first count tt e in
    in_procs procs 0 0 (length procs) on.0 k first count on.1
