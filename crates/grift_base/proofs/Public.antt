-- The lemmas of tables, texts, numbers, the input and the kinds of rows for other crates.
pub use Rattle.grift_base.proofs.EachRow.{each_row}
pub use Rattle.grift_base.proofs.TableLemmas.{HasNoRepeats-from_IsDistinct, absent-from_list_any, Interns-insert_key}
pub use Rattle.grift_base.proofs.Utf8Texts.{utf8_is_read, text_has_its_bytes}
pub use Rattle.grift_base.proofs.ReadNumbers.{next_number_fits}
