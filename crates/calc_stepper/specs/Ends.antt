-- What a state answers, and how its run has ended.
use Rattle.std.specs.Prelude.{Option, Some, None, option_map}
use Rattle.core_calc.specs.declared.ends.Stepped.{Stepped}
use Rattle.core_calc.specs.declared.ends.Stepped.TheVariants.{More}
use Rattle.core_calc.specs.Calculus.{CalcEnd, Answered, Blamed, Trapped, NoStep, shown_value}
use Rattle.core_calc.specs.Terms.{Term, as_value}
use Rattle.core_redexes.specs.declared.moves.Moved.{Moved}
use Rattle.core_redexes.specs.declared.moves.Moved.TheVariants.{Goes, Blames, Traps, Stuck}

-- the end, or that the run goes on
abbrev pub end_or_more : Option Stepped → Stepped
end_or_more (Some end) = end
end_or_more None = More

-- after a step that came to this, with this term
abbrev pub end_after : Moved → Term → Option CalcEnd
end_after Goes term = option_map (λ v. Answered (shown_value v)) (as_value term)
end_after (Blames label) term = Some (Blamed label.0)
end_after (Traps trap) term = Some (Trapped trap)
end_after Stuck term = Some NoStep
