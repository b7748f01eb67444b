-- Programs that are converted and run: the procedures are closed, and end in both modes with the verdict and the output
-- that the calculus has, in the piled mode with as many wrap steps. `l0`, `l1` and `l2` are the labels.
use Rattle.std.proofs.Common.{◌≡◌, ℕ, List, [], ◌∷◌, Bool, Option, Some, map, refl, true, pos}
use Rattle.std.specs.Int.{int_wrap}
use Rattle.std.specs.Fmt.{digits}
use Rattle.run_laws.specs.Runs.{Ending, Verdict as EndsWith}
use Rattle.grift_base.specs.declared.operators.PrimOp.TheVariants.{Add, MakeBox, Unbox}
use Rattle.grift_base.specs.declared.operators.PrimOp.TheVariants.{MakeVector, VectorLength}
use Rattle.grift_base.specs.declared.verdicts.Verdict.{Verdict}
use Rattle.core_calc.specs.Terms.{Term, BoolLit, Call, Seq, Cast}
use Rattle.core_calc.specs.Terms.{ProjDyn, Tuple, Prim}
use Rattle.cast_modes.specs.Modes.{piling}
use Rattle.coercion_norm.specs.MergedMode.{merging}
use Rattle.coer_core.specs.Conversion.{converted as rows_of}
use Rattle.core_calc.specs.Account.{measures_of}
use Rattle.coer_core.specs.Counts.{told_of}
use Rattle.coer_core.specs.MergedTally.{merged_tally_in}
use Rattle.coer_core.specs.Tally.{Tally, tally_in}
use Rattle.flat_ir.specs.Closed.{is_closed}
use Rattle.flat_ir.specs.Counts.{flat_run_in}
use Rattle.coer_core.specs.Terms.{RowVar, RowCall, RowPrim, NoRowTerms, RowTermThen, NoRowMembers, RowMemberThen}
use Rattle.closure_convert.specs.Conversion.{captures, converted, made}
use Rattle.flat_ir.specs.FlatTally.{FlatTally, flat_tally_in}
use Rattle.coer_core.specs.TurnPrices.{piled_prices, merged_prices}
use Rattle.coer_core.proofs.Public.{Sample, types, program, int, one, two, wide_identity}
use Rattle.coer_core.proofs.Public.{samples, Asker, askers}

-- whether the procedures of a program are closed; and what it ends with, its output and its wrap steps: in the piled
-- run, and in the merged run without these
abbrev Ends : Type 0
Ends = Option (Ending Verdict) × List ℕ

abbrev come_to : Sample → Bool × (Ends × ℕ) × Ends
come_to s =
    let rows = rows_of [] s.term in
    let procs = converted rows.term in
    let entry = made rows.term in
    let told = told_of (program s.term) s.type in
    let piled = flat_run_in procs entry (piling types rows.casts) told [] 150 in
    let merged = flat_run_in procs entry (merging types rows.casts) told [] 150 in
    (is_closed procs entry, ((piled.ending, piled.output), piled.shown.wraps), (merged.ending, merged.output))

abbrev wanted : Sample → Bool × (Ends × ℕ) × Ends
wanted s = let end : Ends = (Some (EndsWith s.verdict), s.output) in (true, (end, s.wraps), end)

-- the samples come to what they say, within 150 turns
samples_end : map come_to samples ≡ map wanted samples
unfolding digits int_wrap
samples_end = refl

-- ---- words asked for

-- the piled run of the procedures asks for so many words, as many as the objects that are made take
abbrev asked : Asker → ℕ
asked a =
    let rows = rows_of [] a.term in
    (flat_run_in (converted rows.term) (made rows.term) (piling types rows.casts) (told_of (program a.term) a.type) []
    150).shown.words

askers_ask : map asked askers ≡ map (λ a. a.words) askers
askers_ask = refl

-- ---- captured names

-- of two functions in the order of first appearance, each once: 7 and then 5, but neither the name of a function nor
-- that of a parameter
captured_in_order : captures (0 ∷ 1 ∷ [])
    (RowMemberThen 0 (2 ∷ []) (RowPrim Add (RowTermThen (RowVar 7) (RowTermThen (RowVar 2) NoRowTerms))) 3
    (RowMemberThen 1 (3 ∷ []) (RowCall (RowVar 0) (RowTermThen (RowVar 5) (RowTermThen (RowVar 7) NoRowTerms))) 3
    NoRowMembers)) ≡ 7 ∷ 5 ∷ []
captured_in_order = refl

-- ---- accounts

-- of the procedures: acts, bodies that are a name or a constant, words and instructions
abbrev Shows : FlatTally → ℕ → ℕ → ℕ → ℕ → Type 0
Shows flat acts atoms words paid =
    (flat.acts ≡ acts) × (flat.atoms ≡ atoms) × (flat.words ≡ words) × (flat.paid ≡ paid)

-- and of the term: acts, words and instructions
abbrev ShowsOwn : Tally → ℕ → ℕ → ℕ → Type 0
ShowsOwn tally acts words paid = (tally.acts ≡ acts) × (tally.words ≡ words) × (tally.paid ≡ paid)

-- after 150 turns, in the piled mode
abbrev piled_flat : Term → ℕ → FlatTally
piled_flat term type =
    let rows = rows_of [] term in
    let mode = piling types rows.casts in
    (flat_tally_in (converted rows.term) (made rows.term) mode (piled_prices mode (measures_of (program term)))
    (told_of (program term) type) [] 150).shown

abbrev piled_own : Term → ℕ → Tally
piled_own term type =
    let rows = rows_of [] term in
    (tally_in (piling types rows.casts) (measures_of (program term)) (told_of (program term) type) rows.term []
    150).shown

-- and merged
abbrev merged_flat : Term → ℕ → FlatTally
merged_flat term type =
    let rows = rows_of [] term in
    let mode = merging types rows.casts in
    (flat_tally_in (converted rows.term) (made rows.term) mode (merged_prices types mode (measures_of (program term)))
    (told_of (program term) type) [] 150).shown

abbrev merged_own : Term → ℕ → Tally
merged_own term type =
    let rows = rows_of [] term in
    (merged_tally_in types (merging types rows.casts) (measures_of (program term)) (told_of (program term) type)
    rows.term [] 150).shown

-- a constant alone is one body, and no act
one_constant : Shows (piled_flat (int 1) 0) 0 1 0 64
    × ShowsOwn (piled_own (int 1) 0) 0 0 0
one_constant = ((refl, refl, refl, refl), (refl, refl, refl))

-- each part is a body of its own, for which the procedures make no act: the term does
begun_parts : Shows (piled_flat (Tuple (two (Seq (one (int 1))) (Seq (one (int 2))))) 11) 1 2 3 1024
    × ShowsOwn (piled_own (Tuple (two (Seq (one (int 1))) (Seq (one (int 2))))) 11) 3 3 2688
begun_parts = ((refl, refl, refl, refl), (refl, refl, refl))

-- a call through a wrapper
called_piled : Shows (piled_flat (Call wide_identity (one (Cast (int 5) 0 2 1))) 2) 9 2 12754 819328
    × ShowsOwn (piled_own (Call wide_identity (one (Cast (int 5) 0 2 1))) 2) 9 12754 819200
called_piled = ((refl, refl, refl, refl), (refl, refl, refl))

called_merged : Shows (merged_flat (Call wide_identity (one (Cast (int 5) 0 2 1))) 2) 9 2 6357 413824
    × ShowsOwn (merged_own (Call wide_identity (one (Cast (int 5) 0 2 1))) 2) 9 6357 413696
called_merged = ((refl, refl, refl, refl), (refl, refl, refl))

vector_piled : Shows (piled_flat (Prim VectorLength (one (Prim MakeVector (two (int 3) (int 8))))) 0) 2 0 4 1984
    × ShowsOwn (piled_own (Prim VectorLength (one (Prim MakeVector (two (int 3) (int 8))))) 0) 2 4 1984
vector_piled = ((refl, refl, refl, refl), (refl, refl, refl))

-- a part of a tuple in Dyn
part_piled : Shows (piled_flat (ProjDyn (Cast (Tuple (two (int 4) (BoolLit true))) 11 2 0) (pos 1) 1) 2) 5 0 51 4480
    × ShowsOwn (piled_own (ProjDyn (Cast (Tuple (two (int 4) (BoolLit true))) 11 2 0) (pos 1) 1) 2) 5 51 4480
part_piled = ((refl, refl, refl, refl), (refl, refl, refl))

part_merged : Shows (merged_flat (ProjDyn (Cast (Tuple (two (int 4) (BoolLit true))) 11 2 0) (pos 1) 1) 2) 5 0 22 4480
    × ShowsOwn (merged_own (ProjDyn (Cast (Tuple (two (int 4) (BoolLit true))) 11 2 0) (pos 1) 1) 2) 5 22 4480
part_merged = ((refl, refl, refl, refl), (refl, refl, refl))

-- a new box asks for two words, and the rest is that of casts
box_merged : Shows (merged_flat (Prim Unbox (one (Cast (Prim MakeBox (one (int 1))) 7 8 0))) 2) 5 0 6341 409984
    × ShowsOwn (merged_own (Prim Unbox (one (Cast (Prim MakeBox (one (int 1))) 7 8 0))) 2) 5 6341 409984
box_merged = ((refl, refl, refl, refl), (refl, refl, refl))
