-- What values hold.
use Rattle.std.specs.Prelude.{ℕ, Option, Some, None}
use Rattle.core_calc.specs.Terms.{Value, InjectValue, WrapValue}
use Rattle.core_redexes.specs.declared.forms.Wrapper.{Wrapper}

-- what Dyn holds, and the type that it kept
abbrev pub held_of : Option Value → Option (Value × ℕ)
held_of (Some (InjectValue v kept)) = Some (v, kept)
held_of _ = None

-- what is behind a wrapper
abbrev pub wrapped_of : Option Value → Option Value
wrapped_of (Some (WrapValue v from label to)) = Some v
wrapped_of _ = None

-- what a wrapper says: from a type, a label, to a type
abbrev pub wrapper_in : Option Value → Option (ℕ × ℕ × ℕ)
wrapper_in (Some (WrapValue v from label to)) = Some (from, label, to)
wrapper_in _ = None

abbrev pub wrapper_view : Wrapper → ℕ × ℕ × ℕ
wrapper_view w = (w.from.0, w.label.0, w.to.0)
