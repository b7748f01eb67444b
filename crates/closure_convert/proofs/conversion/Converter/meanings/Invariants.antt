use Rattle.std.proofs.Common.{◌≡◌, ◌++◌, drop}
use Rattle.closure_convert.specs.Conversion.{Scope, meanings_of}
use Rattle.closure_convert.specs.Converting.{seen}
use Rattle.closure_convert.specs.Keeping.{Kept}
use Rattle.closure_convert.specs.Scopes.{Reaches, known, with_all_free}
use Rattle.closure_convert.proofs.conversion.Converter.meanings.Given as goal

-- what is left comes to the whole
abbrev pub invariant-loop-name : goal.invariant-loop-name
invariant-loop-name l = record {
  kept : Kept l.fn.self.names l.self.names;
  captured : with_all_free (known l.fn.self.names) l.self.names.captured (drop l.name-index l.names)
      ≡ with_all_free (known l.fn.self.names) l.fn.self.names.captured l.names;
  procs : l.self.procs ≡ l.fn.self.procs;
  meanings : (outer : Scope) → Reaches l.self.names.captured outer
      → l.operands ++ meanings_of (drop l.name-index l.names) (seen l.fn.self outer)
      ≡ meanings_of l.names (seen l.fn.self outer);
}
