use Rattle.std.proofs.Common.{◌≡◌, ℕ, suc, true, length, Result, Ok, Err, ap, ◌∙◌, subst, sym}
use Rattle.std.proofs.lemmas.List.{length-map}
use Rattle.std.specs.Prelude.{IfOk}
use Rattle.grift_base.specs.declared.words.Statics.{Statics}
use Rattle.machine_words.specs.Memory.{first_address}
use Rattle.type_graph.specs.Rows.{row_of}
use Rattle.coercion_norm.specs.CastRows.{row_casts}
use Rattle.flat_ir.specs.Closed.{is_closed}
use Rattle.flat_ir.specs.Views.{proc_of as flat_proc_of, procs_of}
use Rattle.lower.specs.MadePrograms.{StaticsServe}
use Rattle.lower.proofs.simulation.Made.{Runs, made_runs}
use Rattle.lower.proofs.schemes.lower_with.Given.{Over}
use Rattle.lower.proofs.schemes.lower_with.Goals as goal

-- what a clause says of what was made, or three and one more together
of_one : {A E : Type 0} (made : Result A E) (P Q : A → Type 0) → ((a : A) → P a → Q a) → IfOk made P → IfOk made Q
of_one (Ok a) P Q f p = f a p
of_one (Err e) P Q f p = tt

of_four : {A E : Type 0} (made : Result A E) (P Q R S T : A → Type 0) → ((a : A) → P a → Q a → R a → S a → T a)
    → IfOk made P → IfOk made Q → IfOk made R → IfOk made S → IfOk made T
of_four (Ok a) P Q R S T f p q r s = f a p q r s
of_four (Err e) P Q R S T f p q r s = tt

pub returns-clause-serves : goal.returns-clause-serves
returns-clause-serves g c =
    let s = c.args.scheme.now in
    let S = g.S.Scheme in
    let types = c.args.types.now in
    let nodes = c.args.coercions.now.nodes in
    let casts = c.args.casts.now in
    of_one c.lower_over.result _ _
    (λ low statics covers. subst (λ (given : Statics). (region : ℕ)
    → StaticsServe (S.meaning s) types (row_casts casts) first_address given region
    (S.layout s types nodes casts first_address given region)) (sym statics) (c.in_ok-statics.ensures.serves covers))
    c.lower_over.ensures.statics

-- its run follows that of the numbered procedures, and keeps within their account
runs : (g : Over) (c : goal.After-lower_over g) → IfOk c.lower_over.result (λ low.
    g.S.Scheme.covers c.args.scheme.now c.args.types.now c.args.coercions.now.nodes c.args.casts.now
    → is_closed (procs_of c.args.flat.now.procs) c.args.flat.now.entry ≡ true
    → Runs (g.S.Scheme.meaning c.args.scheme.now)
    (g.S.Scheme.layout c.args.scheme.now c.args.types.now c.args.coercions.now.nodes c.args.casts.now first_address
    low.statics) c.args.flat.now c.args.types.now (row_casts c.args.casts.now) low)
runs g c =
    let s = c.args.scheme.now in
    let S = g.S.Scheme in
    let flat = c.args.flat.now in
    let types = c.args.types.now in
    let casts = c.args.casts.now in
    let over = c.lower_over.ensures in
    let many = sym (length-map flat.procs flat_proc_of) in
    of_four c.lower_over.result _ _ _ _ _
    (λ low serves procs entry narrow covers closed.
    made_runs (S.meaning s) c.serves.ensures.lawful (S.procs_from s) (S.numbers_from s) c.serves.ensures.everywhere
    (S.layout s types c.args.coercions.now.nodes casts first_address low.statics) flat types (row_casts casts) low
    (row_of c.row.result.now) (suc (length flat.procs)) (serves covers) c.row.ensures (ap suc many)
    (procs (row_of c.row.result.now) c.row.ensures) (entry ∙ many) closed narrow) (returns-clause-serves g c)
    over.procs over.entry over.narrow

pub returns-clause-follows : goal.returns-clause-follows
returns-clause-follows g c =
    of_one c.lower_over.result _ _ (λ low r covers closed. (r covers closed).follows) (runs g c)

pub returns-clause-keeps : goal.returns-clause-keeps
returns-clause-keeps g c =
    of_one c.lower_over.result _ _ (λ low r covers closed. (r covers closed).keeps) (runs g c)
