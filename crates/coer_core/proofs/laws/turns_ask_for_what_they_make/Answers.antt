use Rattle.coercion_norm.specs.MergedMode.{merging}
use Rattle.cast_modes.specs.Modes.{piling}
use Rattle.coer_core.proofs.AskedFor.{kinds_asked, efforts_asked}
use Rattle.coer_core.proofs.laws.turns_ask_for_what_they_make.Goals as goal

pub returns-clause-piled : goal.returns-clause-piled
returns-clause-piled c = λ types casts m state. kinds_asked (piling types casts) m state.focus state.frames

pub returns-clause-merged : goal.returns-clause-merged
returns-clause-merged c =
    λ types casts m state wide. efforts_asked types (merging types casts) m wide state.focus state.frames
