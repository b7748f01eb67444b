-- The lemmas that other crates may cite.
pub use Rattle.rv_isa.proofs.SignedBits.{low_bits_below}
pub use Rattle.rv_isa.proofs.RoundTrip.{decode_of-encode_of, encode_of-decode_of, decoded_is_row, row_is_decoded}
