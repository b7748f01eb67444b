-- What stays known while names are bound.
use Rattle.std.specs.Prelude.{◌≡◌, List, ◌++◌}
use Rattle.closure_convert.specs.declared.names.Meaning.{Meaning}
use Rattle.closure_convert.specs.declared.names.Names.{Names}
use Rattle.closure_convert.specs.Scopes.{known, undone}

-- the same names are bound
pub record Kept (old new : Names) : Type 0 where
  pub scope : known new ≡ known old
  pub log : new.before.items ≡ old.before.items

-- names were bound, and where that is undone the same is known as before
pub record Opened (old new : Names) : Type 0 where
  pub added : List Meaning
  pub log : new.before.items ≡ old.before.items ++ added
  pub back : undone added (known new) ≡ known old
