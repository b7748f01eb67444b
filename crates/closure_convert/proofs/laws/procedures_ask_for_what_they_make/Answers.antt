use Rattle.coercion_norm.specs.MergedMode.{merging}
use Rattle.cast_modes.specs.Modes.{piling}
use Rattle.coer_core.specs.TurnPrices.{piled_prices, merged_prices}
use Rattle.closure_convert.proofs.AskedFor.{turns_asked, piled_enough, merged_enough}
use Rattle.closure_convert.proofs.laws.procedures_ask_for_what_they_make.Goals as goal

pub returns-clause-piled : goal.returns-clause-piled
returns-clause-piled c = λ types casts m procs state.
    let mode = piling types casts in
    turns_asked procs mode (piled_prices mode m) (piled_enough mode m) state.focus state.frames

pub returns-clause-merged : goal.returns-clause-merged
returns-clause-merged c = λ types casts m procs state wide.
    let mode = merging types casts in
    turns_asked procs mode (merged_prices types mode m) (merged_enough types mode m wide) state.focus state.frames
