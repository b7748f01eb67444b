use Rattle.std.proofs.Common.{List, ap₂}
use Rattle.core_calc.specs.Terms.{Terms}
use Rattle.grift_base.specs.declared.places.TypeId.{TypeId}
use Rattle.type_graph.specs.Rows.{places_of}
use Rattle.cast_rules.specs.Calls.{Given}
use Rattle.insert_steps.proofs.joining.given_first.Goals as goal

pub returns : goal.returns
returns c =
    let given : Terms → List TypeId → Given = λ terms types. record { terms = terms; types = places_of types } in
    ap₂ given c.in_ok-terms.ensures c.in_ok-put_first.ensures
