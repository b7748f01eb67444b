use Rattle.std.proofs.Common.{◌%◌, sym, ◌∙◌, ap, arith}
use Rattle.std.specs.Int.{byte_len}
use Rattle.machine_words.specs.Memory.{load_bytes, memory_of}
use Rattle.rv_emulator.specs.Widths.{width_of}
use Rattle.rv_emulator.proofs.Paging.{load_read, load_missing}
use Rattle.rv_emulator.proofs.paged.PagedRamRam.load.Goals as goal

pub returns-in-Some-clause-value : goal.returns-in-Some-clause-value
returns-in-Some-clause-value c =
    let ram = c.args.self.now in
    let k = byte_len (width_of c.args.width) in
    c.load_in.ensures.value ∙ ap (λ bytes. load_bytes k (memory_of bytes) (c.args.at % 4096)) c.deref.ensures
    ∙ load_read c.args.width ram.size c.args.at ram.pages.items c.index.result.now _ c.requires.aligned
    c.requires.inside (omega (arith, ram.pages.ok.0, ram.covers)) c.index.ensures c.in-Some.is

pub returns-in-None-clause-value : goal.returns-in-None-clause-value
returns-in-None-clause-value c =
    let ram = c.args.self.now in
    sym (load_missing (byte_len (width_of c.args.width)) (c.args.at % 4096))
    ∙ load_read c.args.width ram.size c.args.at ram.pages.items c.index.result.now _ c.requires.aligned
    c.requires.inside (omega (arith, ram.pages.ok.0, ram.covers)) c.index.ensures c.in-None.is
