use Rattle.std.proofs.Common.{◌/◌, length, None, arith}
use Rattle.std.proofs.lemmas.List.{get_or_read}
use Rattle.std.specs.Int.{byte_len}
use Rattle.rv_emulator.specs.Widths.{width_of}
use Rattle.rv_emulator.proofs.Paging.{in_one_page, page_there, page_is_made, page_stored, still_whole}
use Rattle.rv_emulator.proofs.paged.PagedRamRam.store.Goals as goal

pub returns-clause-stays_whole : goal.returns-clause-stays_whole
returns-clause-stays_whole c =
    let ram = c.args.self.now in
    let there = page_there c.args.width ram.size c.args.at (length ram.pages.items) c.requires.inside
    (omega (arith, ram.pages.ok.0, ram.covers)) in
    let page = get_or_read ram.pages.items (c.args.at / 4096) c.index_mut.result.now there
    c.index_mut.ensures.value None in
    still_whole c.store_in_page.result ram.pages.items (c.args.at / 4096) c.index_mut.result.now
    c.store_in_page.new.page there page c.store_in_page.ensures.made c.store_in_page.ensures.missing

pub returns-clause-ok : goal.returns-clause-ok
returns-clause-ok c =
    let ram = c.args.self.now in
    let k = byte_len (width_of c.args.width) in
    let there = page_there c.args.width ram.size c.args.at (length ram.pages.items) c.requires.inside
    (omega (arith, ram.pages.ok.0, ram.covers)) in
    let page = get_or_read ram.pages.items (c.args.at / 4096) c.index_mut.result.now there
    c.index_mut.ensures.value None in
    page_stored c.store_in_page.result k ram.size c.args.at c.args.word ram.pages.items c.index_mut.result.now
    c.store_in_page.new.page (in_one_page c.args.width c.args.at c.requires.aligned) c.requires.inside there page
    c.store_in_page.ensures.ok

pub returns-clause-made : goal.returns-clause-made
returns-clause-made c =
    let ram = c.args.self.now in
    let there = page_there c.args.width ram.size c.args.at (length ram.pages.items) c.requires.inside
    (omega (arith, ram.pages.ok.0, ram.covers)) in
    page_is_made c.store_in_page.result ram.pages.items (c.args.at / 4096) c.store_in_page.new.page there
    c.store_in_page.ensures.made
