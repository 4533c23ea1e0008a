-- `menus::from_translated` meets its contract: line k is there and full exactly where a scan finds bytes of it.
use borrow.Author.Tests.{ltb-true, lt-ltb}
use native.Mathlib.Omega.{arith}
use Rattle.menus.specs.ScanLaws.{part_length, found_full}
use Rattle.menus.proofs.from_translated.Goals as goal

pub returns : goal.returns
returns c =
    let a = c.args in
    let i = c.line_start-start.result in
    let j = c.part_end-end.result in
    let n = part_length a.translated.now a.k i j c.line_start-start.ensures c.part_end-end.ensures.place in
    let full = found_full a.translated.now a.k in
    (λ t. full.0 (omega (arith, n, ltb-true i j t)), λ f. lt-ltb i j (omega (arith, n, full.1 f)))
