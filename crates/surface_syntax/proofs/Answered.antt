-- What the reader answers is the program of the table, and what it refuses is none.
use Rattle.std.proofs.Common.{◌≡◌, ◌≤◌, ◌+◌, ◌*◌, ℕ, List, [], refl, sym, ap, ◌∙◌, subst}
use Rattle.std.specs.Prelude.{Result, Err, IfErr}
use Rattle.grift_base.specs.declared.places.Pos.{Pos}
use Rattle.grift_base.specs.declared.refusals.RefusalKind.{RefusalKind}
use Rattle.grift_base.specs.declared.refusals.FrontFault.{FrontFault}
use Rattle.grift_base.specs.declared.refusals.FrontFault.TheVariants.{Refused, OutOfMemory}
use Rattle.sexpr_reader.specs.Datum.{Datums, depth_of as datums_depth}
use Rattle.form_table.specs.Marked.{Sexprs, all_marked, how_many}
use Rattle.surface_trees.specs.Trees.{Expr}
use Rattle.derived_forms.specs.Written.{Top}
use Rattle.form_table.specs.Walking.{Walked, Reads, Refuses}
use Rattle.form_table.specs.TopWalk.{walk_program}
use Rattle.derived_forms.specs.Expansion.{Part, whole, expand_tops}
use Rattle.form_table.specs.Pass.{parse_tops}
use Rattle.form_table.specs.Depth.{depth}
use Rattle.form_table.specs.Freshness.{BindsFreshOnce}
use Rattle.form_table.specs.Claims.{Parses}
use Rattle.form_table.specs.Programs.{AreExpr, AreNoProgram, IsFault}
use Rattle.form_table.proofs.Public.{brackets_of_are, expanded, program_fresh, program_shallow, read_is_one, stopped}
use Rattle.form_table.proofs.Public.{the_walk_reads_the_table_of_programs-alone}
use Rattle.form_table.proofs.Public.{the_walk_reads_the_table_of_programs-each, tops_are}

-- the pass, by what the walk answers
pass_of : (ds : Sexprs) (w : Walked (List Top)) → walk_program ds ≡ w
    → parse_tops 500 [] ds 0 ≡ expanded expand_tops w 0
pass_of ds w e = ap (λ f. f 0) (tops_are 500 [] ds) ∙ ap (λ w. expanded expand_tops w 0) e

program_of : (ds : Sexprs) (w : Walked (List Top)) (parts : List Part) (names : ℕ) → walk_program ds ≡ w
    → expanded expand_tops w 0 ≡ Reads (parts, names) → AreExpr ds (whole parts)
program_of ds (Reads tops) parts names e h =
    let same : (expand_tops tops 0).0 ≡ parts = ap (λ (d : List Part × ℕ). d.0) (read_is_one h) in
    (tops, the_walk_reads_the_table_of_programs-alone ds tops e, sym (ap whole same))
program_of ds (Refuses kind p) parts names e h = absurd (let z : ⊥ = cc in z)

pub answered : (ds : Sexprs) (parts : List Part) (names : ℕ) → parse_tops 500 [] ds 0 ≡ Reads (parts, names)
    → AreExpr ds (whole parts)
answered ds parts names e =
    program_of ds (walk_program ds) parts names refl (sym (pass_of ds (walk_program ds) refl) ∙ e)

refusal_of : (ds : Sexprs) (w : Walked (List Top)) (kind : RefusalKind) (p : Pos) → walk_program ds ≡ w
    → expanded expand_tops w 0 ≡ Refuses kind p → AreNoProgram ds × (walk_program ds ≡ Refuses kind p)
refusal_of ds (Reads tops) kind p e h = absurd (let z : ⊥ = cc in z)
refusal_of ds (Refuses why q) kind p e h =
    let one : why ≡ kind = cc in
    let two : q ≡ p = cc in
    let same : walk_program ds ≡ Refuses kind p = e ∙ ap (λ k. Refuses k q) one ∙ ap (Refuses kind) two in
    (λ tops is. let read = the_walk_reads_the_table_of_programs-each ds tops is in let z : ⊥ = cc in z, same)

pub refused_at : (ds : Sexprs) (kind : RefusalKind) (p : Pos) → parse_tops 500 [] ds 0 ≡ Refuses kind p
    → AreNoProgram ds × (walk_program ds ≡ Refuses kind p)
refused_at ds kind p e =
    refusal_of ds (walk_program ds) kind p refl (sym (pass_of ds (walk_program ds) refl) ∙ e)

stopped_at : (ds : Sexprs) (fault : FrontFault) {R : Type 0} (view : R → List Part) (names : ℕ)
    → Parses (stopped {R = R} fault) view names (parse_tops 500 [] ds 0) → IsFault ds fault
stopped_at ds (Refused refusal) view names h = refused_at ds refusal.kind refusal.pos h
stopped_at ds OutOfMemory view names h = tt

pub fault_given : (ds : Sexprs) {R S : Type 0} (result : Result S FrontFault) (fault : FrontFault)
    (view : R → List Part) (names : ℕ) → result ≡ Err fault
    → Parses (stopped {R = R} fault) view names (parse_tops 500 [] ds 0) → IfErr result (IsFault ds)
fault_given ds {R} {S} result fault view names e h =
    subst (λ (r : Result S FrontFault). IfErr r (IsFault ds)) (sym e) (stopped_at ds fault view names h)

-- ---- the expression of a program

pub is_shallow : (ds : Datums) (e : Expr) → AreExpr (all_marked ds) e
    → depth e ≤ 7 * datums_depth ds + how_many (all_marked ds) + 1
is_shallow ds e h =
    let deep = program_shallow h.1.0 in
    let same = brackets_of_are ds in
    rw h.2 (rw (← same) deep)

pub is_fresh_once : (ds : Sexprs) (e : Expr) → AreExpr ds e → BindsFreshOnce e
is_fresh_once ds e h = subst BindsFreshOnce (sym h.2) (program_fresh h.1.0)
