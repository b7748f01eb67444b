use Rattle.std.proofs.Common.{◌≡◌, ap, ◌∙◌}
use Rattle.rv_isa.specs.Decoding.{decode_of, inst_of}
use Rattle.rv_isa.specs.Encoding.{encode_of}
use Rattle.rv_isa.specs.Table.{IsWordOf}
use Rattle.rv_isa.proofs.RoundTrip.{decoded_is_row, row_is_decoded, encode_of-decode_of, if_decoded}
use Rattle.rv_isa.proofs.inst.decode.Goals as goal

pub returns : goal.returns
unfolding decode_of
returns c =
    let word = c.args.word in
    let b = c.ranges.word.fits in
    let e : c.inst_of.result ≡ decode_of word = c.inst_of.ensures ∙ ap inst_of c.of_word.ensures.value in
    record {
      value = e;
      row = if_decoded word (λ i. IsWordOf i word) c.inst_of.result e (decoded_is_row word b);
      exact = λ i h. e ∙ row_is_decoded word b i h;
      back = if_decoded word (λ i. encode_of i ≡ word) c.inst_of.result e (encode_of-decode_of word b);
    }
