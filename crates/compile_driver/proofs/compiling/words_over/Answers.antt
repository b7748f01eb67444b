use Rattle.std.proofs.Common.{◌≡◌, ◌+◌, ◌<◌, ◌≤◌, ◌^◌, ℕ, List, true, ap, arith, length, sym, ◌∙◌, subst, rules}
use Rattle.std.specs.Prelude.{All, [], Some}
use Rattle.std.proofs.lemmas.List.{length-map}
use Rattle.grift_base.specs.Types.{row_at}
use Rattle.grift_base.specs.declared.places.TypeId.{TypeId}
use Rattle.type_graph.specs.Rows.{row_of}
use Rattle.rv_machine.specs.Image.{statics_len, code_len}
use Rattle.core_calc.specs.Typing.{ProgramTermHasType}
use Rattle.core_calc.specs.Views.{term_of}
use Rattle.front_end.proofs.Public.{program_type_there}
use Rattle.run_laws.specs.Accounts.{FollowsWithin}
use Rattle.core_calc.specs.Account.{account, extent, measures_of}
use Rattle.coercion_norm.specs.MergedMode.{merging}
use Rattle.coer_core.specs.Counts.{told_of}
use Rattle.flat_ir.specs.Closed.{is_closed as is_closed_flat}
use Rattle.flat_ir.specs.FlatTally.{FlatBelow, FlatPaidBelow, flat_tally_in}
use Rattle.coer_core.specs.TurnPrices.{merged_prices}
use Rattle.flat_ir.specs.Views.{procs_of as procs_of_flat}
use Rattle.closure_convert.specs.Conversion.{made}
use Rattle.low_ir.specs.Closed.{is_closed}
use Rattle.low_ir.specs.Views.{procs_of}
use Rattle.reg_assign.specs.Images.{IsImageOfWords}
use Rattle.coercion_norm.specs.CastRows.{row_casts}
use Rattle.coer_core.specs.Programs.{tallest_of}
use Rattle.coer_core.specs.Terms.{core_of}
use Rattle.coer_core.specs.Views.{row_term_of}
use Rattle.flat_ir.specs.Views.{proc_of as flat_proc_of}
use Rattle.compile_driver.specs.Compiling.{program_over}
use Rattle.compile_driver.specs.Space.{KeepsSpace}
use Rattle.compile_driver.proofs.FewWords.{levels_within}
use Rattle.compile_driver.proofs.Following.{HasPassed, are_made, casts_within, follows_program, keeps_space}
use Rattle.compile_driver.proofs.Following.{no_names}
use Rattle.compile_driver.proofs.ImageAccount.{IsMeasured, keeps_account}
use Rattle.compile_driver.proofs.LabelsLow.{labels_low}
use Rattle.compile_driver.proofs.compiling.words_over.Goals as goal
use Rattle.compile_driver.proofs.compiling.words_over.Goals.{After-drop-coer-2}

pub to_coercions-requires : goal.to_coercions-requires
to_coercions-requires c = (length c.args.elab.now.labels, c.args.elab.now.ty.0, c.requires.typed)

pub row-requires : goal.row-requires
row-requires c =
    let term = term_of c.args.elab.now.core in
    let labels = length c.args.elab.now.labels in
    let low = labels_low c.args.types.now labels [] term [] c.args.elab.now.ty.0 c.requires.typed.3 in
    program_type_there c.args.types.now labels term c.in_ok-coer.coer.answer.0 (c.in_ok-coer.ensures.answer labels low)

pub lower-requires-clause-answer : goal.lower-requires-clause-answer
lower-requires-clause-answer c =
    let term = term_of c.args.elab.now.core in
    let labels = length c.args.elab.now.labels in
    let low = labels_low c.args.types.now labels [] term [] c.args.elab.now.ty.0 c.requires.typed.3 in
    subst (λ answer. answer < length c.args.types.now) (sym (ap (λ (t : TypeId). t.0) c.in_ok-flat.ensures.answer))
    (program_type_there c.args.types.now labels term c.in_ok-coer.coer.answer.0
    (c.in_ok-coer.ensures.answer labels low))

pub lower-requires-clause-fits : goal.lower-requires-clause-fits
lower-requires-clause-fits c = c.in_ok-coer.ensures.fits

pub lower-requires-clause-casts : goal.lower-requires-clause-casts
lower-requires-clause-casts c = casts_within c.args.types.now c.in_ok-coer.coer.coercions.nodes
    c.in_ok-coer.coer.casts c.in_ok-coer.ensures.coercions

flat_closed : (c : After-drop-coer-2)
    → is_closed_flat (procs_of_flat c.in_ok-flat.flat.procs) c.in_ok-flat.flat.entry ≡ true
flat_closed c =
    let types = c.args.types.now in
    let elab = c.args.elab.now in
    let coer = c.in_ok-coer.coer in
    let labels = length elab.labels in
    let low = labels_low types labels [] (term_of elab.core) [] elab.ty.0 c.requires.typed.3 in
    let typed = subst (λ t. ProgramTermHasType types labels t coer.answer.0) (sym c.in_ok-coer.ensures.reads)
    (c.in_ok-coer.ensures.answer labels low) in
    c.in_ok-flat.ensures.closed (row_casts coer.casts) types labels coer.answer.0 c.len.ensures.table.widths typed

words_closed : (c : After-drop-coer-2) → is_closed (procs_of c.in_ok-low.low.procs) c.in_ok-low.low.entry ≡ true
words_closed c = c.in_ok-low.ensures.closed (flat_closed c)

-- what the passes answer is what the laws on images ask for
answers : (c : After-drop-coer-2) (image : List ℕ)
    → IsImageOfWords image (procs_of c.in_ok-low.low.procs) c.in_ok-low.low.entry c.in_ok-low.low.statics.words
    c.args.elab.now.labels
    → statics_len image + code_len image ≤ 2 ^ 33
    → HasPassed (program_over c.args.types.now c.args.elab.now) c.in_ok-coer.coer.casts
    c.in_ok-coer.coer.coercions.nodes (row_term_of c.in_ok-coer.coer.body) c.in_ok-coer.coer.answer.0 image
answers c image is short =
    let types = c.args.types.now in
    let elab = c.args.elab.now in
    let coer = c.in_ok-coer.coer in
    let flat = c.in_ok-flat.flat in
    let low_program = c.in_ok-low.low in
    let rows = coer.casts in
    let term = row_term_of coer.body in
    let labels = length elab.labels in
    let low = labels_low types labels [] (term_of elab.core) [] elab.ty.0 c.requires.typed.3 in
    let answer_typed = c.in_ok-coer.ensures.answer labels low in
    let typed = subst (λ t. ProgramTermHasType types labels t coer.answer.0) (sym c.in_ok-coer.ensures.reads)
    answer_typed in
    let names = no_names (row_casts rows) types labels term coer.answer.0 typed in
    let procs_are = c.in_ok-flat.ensures.procs names in
    let row_there = c.row.ensures in
    let flat_row = subst (λ (t : TypeId). row_at types t.0 ≡ Some (row_of c.row.result.now))
    (sym c.in_ok-flat.ensures.answer) row_there in
    let words : All (λ w. w < 2 ^ 64) low_program.statics.words = search rules in
    let cast_words : All (λ w. w < 2 ^ 64) low_program.statics.cast_at = search rules in
    record {
      statics = low_program.statics;
      row = row_of c.row.result.now;
      passed = record {
        reads = c.in_ok-coer.ensures.reads;
        typed = answer_typed;
        table = c.len.ensures.table;
      };
      row_is = row_there;
      made_so = are_made {term = term} (record {
        procs_are = procs_are;
        entry_is = c.in_ok-flat.ensures.entry;
        counted = sym (length-map flat.procs flat_proc_of);
        low_is = c.in_ok-low.ensures.procs (row_of c.row.result.now) flat_row;
        begins = c.in_ok-low.ensures.entry;
        image_is = is;
        statics_are = c.in_ok-low.ensures.statics;
        coercions = c.in_ok-coer.ensures.coercions;
        words = words;
        cast_words = cast_words;
        closed = flat_closed c;
        narrow = c.in_ok-low.ensures.narrow;
        levels = levels_within (extent (core_of (row_casts rows) term)) (extent (term_of elab.core) + length types)
            (procs_of_flat flat.procs)
            (subst (λ t. extent t ≤ extent (term_of elab.core) + length types) (sym c.in_ok-coer.ensures.reads)
            (omega arith))
            (c.in_ok-flat.ensures.levels (row_casts rows) types labels coer.answer.0 typed);
        short = short;
      });
    }

-- and how high coercions are, and the account of the numbered procedures
is_measured : (c : After-drop-coer-2) → IsMeasured (program_over c.args.types.now c.args.elab.now)
    c.in_ok-coer.coer.casts
    (row_term_of c.in_ok-coer.coer.body) c.in_ok-coer.coer.answer.0
is_measured c =
    let types = c.args.types.now in
    let elab = c.args.elab.now in
    let coer = c.in_ok-coer.coer in
    let program = program_over types elab in
    let term = row_term_of coer.body in
    let labels = length elab.labels in
    let low = labels_low types labels [] (term_of elab.core) [] elab.ty.0 c.requires.typed.3 in
    let answer_typed = c.in_ok-coer.ensures.answer labels low in
    let typed = subst (λ t. ProgramTermHasType types labels t coer.answer.0) (sym c.in_ok-coer.ensures.reads)
    answer_typed in
    let names = no_names (row_casts coer.casts) types labels term coer.answer.0 typed in
    let mode = merging types (row_casts coer.casts) in
    let prices = merged_prices types mode (measures_of program) in
    record {
      tall = subst (λ n. n ≤ (measures_of program).height) c.in_ok-coer.ensures.tallest c.in_ok-coer.ensures.height;
      grows = λ input. c.output_only_grows.ensures.runs program input;
      keeps = λ input.
          subst (λ procs. FollowsWithin (FlatBelow 2) FlatPaidBelow
          (flat_tally_in procs (made term) mode prices (told_of program coer.answer.0) input) (account program input))
          (c.in_ok-flat.ensures.procs names)
          (subst (λ entry. FollowsWithin (FlatBelow 2) FlatPaidBelow
          (flat_tally_in (procs_of_flat c.in_ok-flat.flat.procs) entry mode prices
          (told_of program coer.answer.0) input)
          (account program input)) c.in_ok-flat.ensures.entry
          (c.in_ok-flat.ensures.merged_account (row_casts coer.casts) program input coer.answer.0
          (sym c.in_ok-coer.ensures.reads) answer_typed c.len.ensures.table));
    }

pub returns-clause-tallest : goal.returns-clause-tallest
returns-clause-tallest c =
    c.in_ok-coer.ensures.tallest ∙ ap (tallest_of c.args.types.now) c.in_ok-coer.ensures.order

pub returns-clause-stands : goal.returns-clause-stands
returns-clause-stands c = record {
  closed = words_closed c;
  images = λ image is short.
      let a = answers c image is short in
      let program = program_over c.args.types.now c.args.elab.now in
      let tallest = ap (tallest_of c.args.types.now) c.in_ok-coer.ensures.order in (
        follows_program {program = program} a.passed a.row_is a.made_so,
        subst (λ n. KeepsSpace image c.args.types.now n) tallest
            (keeps_space {program = program} a.passed a.row_is a.made_so),
        keeps_account {program = program} a.passed a.row_is a.made_so (is_measured c),
      );
}
