use Rattle.std.proofs.Common.{◌≡◌, Some, ap, sym, ◌∙◌}
use Rattle.rv_isa.specs.Fields.{word_of}
use Rattle.rv_isa.specs.Encoding.{encode_of}
use Rattle.rv_isa.specs.Decoding.{decode_of}
use Rattle.rv_isa.proofs.RoundTrip.{fit_inst_fields, decoded_is_row, row_is_encoded, decode_of-encode_of}
use Rattle.rv_isa.proofs.inst.encode.Goals as goal

pub returns : goal.returns
unfolding encode_of
returns c =
    let fields = c.fields_of.ensures in
    let value : c.word.result ≡ encode_of c.args.i = c.word.ensures ∙ ap word_of fields.value in
    let fit = fit_inst_fields c.fields_of.result c.args.i fields.fit fields.value in
    let back : decode_of c.word.result ≡ Some c.args.i =
    ap decode_of value ∙ decode_of-encode_of c.args.i fields.valid fit in
    record {
      value = value;
      row = decoded_is_row c.word.result c.word.type_inv c.args.i back;
      only = λ word b h. sym (row_is_encoded word b c.args.i h) ∙ sym value;
      back = back;
    }
