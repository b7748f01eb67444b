use Rattle.std.proofs.Common.{◌≡◌, sym, ◌∙◌, ap}
use Rattle.std.specs.Int.{byte_len}
use Rattle.machine_words.specs.Memory.{Memory, store_bytes, memory_of}
use Rattle.rv_emulator.specs.Widths.{width_of}
use Rattle.rv_emulator.specs.Pages.{page_bytes}
use Rattle.rv_emulator.proofs.Paging.{made_page}
use Rattle.rv_emulator.proofs.paged.store_in_page.Goals as goal

pub returns-clause-ok : goal.returns-clause-ok
returns-clause-ok c =
    let k = byte_len (width_of c.args.width) in
    let before : memory_of c.deref_mut-2.result.now ≡ memory_of (page_bytes c.args.page.now) =
    ap memory_of (c.deref_mut-2.ensures.value ∙ c.in_ok-bytes.ensures.ok) ∙ made_page 4096
    ∙ ap (λ p. memory_of (page_bytes p)) (sym c.in_default.is) in
    c.store_in-2.ensures ∙ ap (λ (m : Memory). store_bytes k m c.args.at c.args.word) before
