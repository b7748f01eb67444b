use Rattle.std.proofs.Common.{◌∙◌, refl, ap}
use Rattle.core_calc.specs.States.{store_of}
use Rattle.core_calc.specs.Views.{term_of}
use Rattle.core_redexes.specs.Redexes.{call_redex, cast_redex, enter_redex, group_redex, if_redex, lambda_redex}
use Rattle.core_redexes.specs.Redexes.{let_redex, prim_redex, proj_dyn_redex, proj_redex, seq_redex, tuple_redex}
use Rattle.calc_stepper.proofs.Stepping.{answers, answers_here, answers_now, step_of_form}
use Rattle.calc_stepper.proofs.steps.redex_step.Goals as goal

pub returns-in-Lambda-clause-moves : goal.returns-in-Lambda-clause-moves
returns-in-Lambda-clause-moves c =
    answers _ _ _ _ _ c.in-Lambda.is lambda_redex refl c.requires c.lambda_redex.ensures.moves

pub returns-in-Group-clause-moves : goal.returns-in-Group-clause-moves
returns-in-Group-clause-moves c =
    answers _ _ _ _ _ c.in-Group.is group_redex refl c.requires c.group_redex.ensures.moves

pub returns-in-Let-clause-moves : goal.returns-in-Let-clause-moves
returns-in-Let-clause-moves c = answers _ _ _ _ _ c.in-Let.is let_redex refl c.requires c.let_redex.ensures.moves

pub returns-in-Call-clause-moves : goal.returns-in-Call-clause-moves
returns-in-Call-clause-moves c = answers _ _ _ _ _ c.in-Call.is call_redex refl c.requires c.call_redex.ensures.moves

pub returns-in-Tuple-clause-moves : goal.returns-in-Tuple-clause-moves
returns-in-Tuple-clause-moves c =
    answers _ _ _ _ _ c.in-Tuple.is tuple_redex refl c.requires c.tuple_redex.ensures.moves

pub returns-in-Enter-clause-moves : goal.returns-in-Enter-clause-moves
returns-in-Enter-clause-moves c =
    answers_here _ _ _ _ _ c.in-Enter.is (enter_redex c.args.types.now) refl c.requires c.enter_redex.ensures.moves

pub returns-in-Cast-clause-moves : goal.returns-in-Cast-clause-moves
returns-in-Cast-clause-moves c =
    answers_here _ _ _ _ _ c.in-Cast.is (cast_redex c.args.types.now) refl c.requires c.cast_redex.ensures.moves

pub returns-in-Proj-clause-moves : goal.returns-in-Proj-clause-moves
returns-in-Proj-clause-moves c =
    answers_here _ _ _ _ _ c.in-Proj.is (proj_redex c.args.types.now) refl c.requires c.proj_redex.ensures.moves

pub returns-in-ProjDyn-clause-moves : goal.returns-in-ProjDyn-clause-moves
returns-in-ProjDyn-clause-moves c =
    answers_here _ _ _ _ _ c.in-ProjDyn.is (proj_dyn_redex c.args.types.now) refl c.requires
    c.proj_dyn_redex.ensures.moves

pub returns-in-If-clause-moves : goal.returns-in-If-clause-moves
returns-in-If-clause-moves c =
    step_of_form c.args.types.now (store_of c.args.store.now) c.args.world.now (term_of c.args.term.now) _
    (if_redex c.args.types.now (store_of c.args.store.now) c.args.world.now) (ap term_of c.in-If.is) refl c.requires
    ∙ c.if_redex.ensures c.args.types.now (store_of c.args.store.now) c.args.world.now

pub returns-in-Seq-clause-moves : goal.returns-in-Seq-clause-moves
returns-in-Seq-clause-moves c =
    step_of_form c.args.types.now (store_of c.args.store.now) c.args.world.now (term_of c.args.term.now) _
    (seq_redex c.args.types.now (store_of c.args.store.now) c.args.world.now) (ap term_of c.in-Seq.is) refl c.requires
    ∙ c.seq_redex.ensures c.args.types.now (store_of c.args.store.now) c.args.world.now

pub returns-in-Prim-clause-moves : goal.returns-in-Prim-clause-moves
returns-in-Prim-clause-moves c =
    answers_now c.args.types.now (store_of c.args.store.now) c.args.world.now (term_of c.args.term.now) _
    (prim_redex c.args.types.now (store_of c.args.store.now) c.args.world.now) c.prim_redex.result
    (λ moved. record {
      moved = moved;
      item = term_of c.prim_redex.new.term;
      store = store_of c.prim_redex.new.store;
      world = c.prim_redex.new.world;
    })
    (ap term_of c.in-Prim.is) refl c.requires c.prim_redex.ensures.moves
