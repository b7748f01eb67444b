use Rattle.std.proofs.Common.{◌+◌, ◌/◌, ◌^◌, ◌<◌, length, refl, arith, rules}
use Rattle.rv_machine.specs.Image.{code_len, statics_len}
use Rattle.listing.specs.CodeLines.{code_address}
use Rattle.listing.proofs.Words.{length-words_from, words_fit}
use Rattle.listing.proofs.laws.listings_of_bytes.Goals as goal

pub returns : goal.returns
returns c =
    let bytes = c.args.bytes.now in
    let few : length bytes < 2 ^ 63 = search rules in
    record {
      first = code_address bytes;
      aligned = (let s = c.requires.statics in omega arith);
      lists = record {
        lines = refl;
        words_fit = words_fit (code_len bytes / 4) (64 + statics_len bytes) bytes
            (λ i. (let byte = c.type_inv.bytes i in byte.fits));
        addresses_fit = λ k below.
            (let many = length-words_from (code_len bytes / 4) (64 + statics_len bytes) bytes in
            let sections = c.requires.sections in
            omega arith);
      };
    }
