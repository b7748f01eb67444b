use Rattle.std.proofs.Common.{◌≡◌, ◌<◌, ◌↔◌, ℕ, List, length, sym, ap, ◌∙◌, refl, subst, arith}
use Rattle.std.specs.Prelude.{Contains, replicate, true}
use Rattle.insert_steps.specs.Views.{entries_of}
use Rattle.blame_audit.specs.Marks.{marked}
use Rattle.blame_audit.specs.SafeLabels.{IsSafe, safe_labels}
use Rattle.blame_audit.specs.Views.{labels_of}
use Rattle.blame_audit.proofs.ElaboratedLists.{entries_name_known, listed_labels_are_exact}
use Rattle.blame_audit.proofs.ElaboratedLists.{listed_labels_are_never_blamed, no_verdict_blames_a_listed_label}
use Rattle.blame_audit.proofs.Marks.{marks_length, mark_at, one_more_safe, no_more_safe}
use Rattle.blame_audit.proofs.audits.audit.Goals as goal
use Rattle.blame_audit.proofs.audits.audit.Goals.{then-index+in_ok-push, else-index}

pub marks_of-requires : goal.marks_of-requires
marks_of-requires c =
    rw (c.as_slice.ensures, c.len-labels.ensures.len) (entries_name_known c.args.types.now c.args.elab.now c.requires)

pub index-requires : goal.index-requires
index-requires c =
    let long = marks_length c.args.types.now (entries_of c.as_slice.result.now) c.len-labels.result
    c.in_ok-marks.marks.items c.in_ok-marks.ensures in
    omega (arith, long, c.loop-label-test.true)

pub loop-label-preserved : goal.loop-label-preserved
loop-label-preserved c =
    let types = c.args.types.now in
    let casts = entries_of c.args.elab.now.casts in
    let marks = c.in_ok-marks.ensures
    ∙ ap (λ entries. marked types (entries_of entries) (replicate c.len-labels.result true)) c.as_slice.ensures in
    let mark = c.index.ensures ∙ mark_at types casts c.len-labels.result c.in_ok-marks.marks.items
    c.loop-label.label c.index.result.now c.loop-label-test.true marks in
    elim c.if-index.branch [
      | then-index+in_ok-push w ↦
          ap labels_of (w.safe-is ∙ w.in_ok-push.ensures.ok)
          ∙ one_more_safe types casts c.loop-label.safe c.loop-label.label c.loop-label.invariant
          (record { 0 = c.loop-label.label }) refl (sym mark ∙ w.if-index.true)
      | else-index w ↦
          ap labels_of w.safe-is
          ∙ no_more_safe types casts c.loop-label.safe c.loop-label.label c.loop-label.invariant
          (sym mark ∙ w.if-index.false)
    ]

pub returns-clause-listed : goal.returns-clause-listed
returns-clause-listed c =
    let all : c.loop-label.label ≡ length c.args.elab.now.labels =
    omega (arith, c.loop-label-test.false, c.loop-label.auto.label-end, c.len-labels.ensures.len) in
    c.loop-label.invariant ∙ ap (safe_labels c.args.types.now (entries_of c.args.elab.now.casts)) all

pub returns-clause-exact : goal.returns-clause-exact
returns-clause-exact c p =
    let P : List ℕ → Type 0 = λ safe. Contains safe p
    ↔ ((p < length c.args.elab.now.labels) × IsSafe c.args.types.now (entries_of c.args.elab.now.casts) p) in
    let all : c.loop-label.label ≡ length c.args.elab.now.labels =
    omega (arith, c.loop-label-test.false, c.loop-label.auto.label-end, c.len-labels.ensures.len) in
    let listed = c.loop-label.invariant ∙ ap (safe_labels c.args.types.now (entries_of c.args.elab.now.casts)) all in
    subst P (sym listed) (listed_labels_are_exact c.args.types.now c.args.elab.now c.requires
    c.len.ensures.table.finite p)

pub returns-clause-never_blamed : goal.returns-clause-never_blamed
returns-clause-never_blamed c p has =
    let all : c.loop-label.label ≡ length c.args.elab.now.labels =
    omega (arith, c.loop-label-test.false, c.loop-label.auto.label-end, c.len-labels.ensures.len) in
    let listed = c.loop-label.invariant ∙ ap (safe_labels c.args.types.now (entries_of c.args.elab.now.casts)) all in
    listed_labels_are_never_blamed c.args.types.now c.args.elab.now c.requires c.len.ensures.table.finite p
    (subst (λ (safe : List ℕ). Contains safe p) listed has)

pub returns-clause-no_verdict : goal.returns-clause-no_verdict
returns-clause-no_verdict c =
    no_verdict_blames_a_listed_label c.args.types.now c.args.elab.now c.requires c.len.ensures.table.finite
    c.len-labels.ensures.distinct
