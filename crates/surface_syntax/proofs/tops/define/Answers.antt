use Rattle.std.proofs.Common.{ap, sym, ◌∙◌, subst}
use Rattle.sexpr_reader.specs.declared.sexps.Sexp.{Sexp, out-Sexp}
use Rattle.sexpr_reader.specs.View.{datums_of}
use Rattle.form_table.specs.Marked.{all_marked}
use Rattle.form_table.specs.Pass.{parse_define}
use Rattle.surface_syntax.specs.TopParts.{part_of}
use Rattle.form_table.specs.Claims.{Parses}
use Rattle.surface_syntax.proofs.Shapes.{one_first}
use Rattle.surface_syntax.proofs.Rows.{is_named}
use Rattle.surface_syntax.proofs.tops.define.Goals as goal

pub returns-in_default-node : goal.returns-in_default-node
returns-in_default-node c =
    let row = ap (λ ds. parse_define c.args.run.now c.args.pos ds c.args.names.now)
    (one_first c.args.elements.now c.in-Cons.is)
    ∙ is_named c.args.run.now c.args.pos (out-Sexp c.in-Cons.first.value).pos (out-Sexp c.in-Cons.first.value).node
    (all_marked (datums_of c.in-Cons.rest.value)) c.args.names.now
    (λ elements e. c.in_default-node.not-List elements (ap (λ (s : Sexp). (out-Sexp s).node) c.deref.ensures ∙ e)) in
    record {
      part = subst (λ w. Parses c.define_name.result part_of c.define_name.new.names w) (sym row)
          (rw (c.deref-in_default-node.ensures, c.deref-in_default-node-2.ensures) at c.define_name.ensures.part);
      run = c.define_name.ensures.run;
    }
