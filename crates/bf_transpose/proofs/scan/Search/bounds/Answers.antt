-- Where a unit goes by the rows of a driver, those outside the range give nothing.
use Rattle.std.proofs.Common.{◌≡◌, ◌<◌, ◌≤◌, List, true, drop, length, sym, take, ap, ◌∙◌, arith}
use Rattle.std.specs.List.{list_all}
use Rattle.bf_heap.specs.Heaps.{Entry}
use Rattle.bf_heap.specs.KeyRanges.{is_before, is_behind}
use Rattle.bf_heap.specs.declared.key_range.KeyRange.{KeyRange}
use Rattle.bf_transpose.specs.Scans.{range_of}
use Rattle.bf_transpose.proofs.Outside.{anchors_counted, none_before, none_behind}
use Rattle.bf_transpose.proofs.scan.Search.bounds.Goals as goal

pub returns-in-Some-clause-first : goal.returns-in-Some-clause-first
returns-in-Some-clause-first c =
    let s = c.args.self.now in
    let counted = anchors_counted s.migration.now c.requires.lawful s.target c.requires.there s.cond.now c.args.unit c.in-Some.driver.now c.in-Some.ensures in
    omega (arith, c.rows_before.ensures.bound, counted, ap (λ (es : List Entry). length es) c.heap-heap.ensures)

pub returns-in-Some-clause-end : goal.returns-in-Some-clause-end
returns-in-Some-clause-end c =
    let s = c.args.self.now in
    let counted = anchors_counted s.migration.now c.requires.lawful s.target c.requires.there s.cond.now c.args.unit c.in-Some.driver.now c.in-Some.ensures in
    omega (arith, c.rows_to_end.ensures.bound, counted, ap (λ (es : List Entry). length es) c.heap-heap.ensures)

pub returns-in-Some-clause-before : goal.returns-in-Some-clause-before
returns-in-Some-clause-before c =
    let s = c.args.self.now in
    let m = s.migration.now in
    let rows = c.in-Some.driver.now.rows in
    let n = c.rows_before.result in
    let before : list_all (λ (e : Entry). is_before (range_of m s.target s.cond.now).low e.0) (take n rows) ≡ true =
    ap (λ (r : KeyRange). list_all (λ (e : Entry). is_before r.low e.0) (take n rows)) (sym c.requires.range)
    ∙ (ap (λ (es : List Entry). list_all (λ (e : Entry). is_before s.range.now.low e.0) (take n es)) (sym c.heap-heap.ensures) ∙ c.rows_before.ensures.before) in
    let bound : n ≤ length rows = omega (arith, c.rows_before.ensures.bound, ap (λ (es : List Entry). length es) c.heap-heap.ensures) in
    none_before m c.requires.lawful s.target c.requires.there s.cond.now c.args.unit c.in-Some.driver.now c.in-Some.ensures n bound before

pub returns-in-Some-clause-behind : goal.returns-in-Some-clause-behind
returns-in-Some-clause-behind c =
    let s = c.args.self.now in
    let m = s.migration.now in
    let rows = c.in-Some.driver.now.rows in
    let n = c.rows_to_end.result in
    let behind : list_all (λ (e : Entry). is_behind (range_of m s.target s.cond.now).high e.0) (drop n rows) ≡ true =
    ap (λ (r : KeyRange). list_all (λ (e : Entry). is_behind r.high e.0) (drop n rows)) (sym c.requires.range)
    ∙ (ap (λ (es : List Entry). list_all (λ (e : Entry). is_behind s.range.now.high e.0) (drop n es)) (sym c.heap-heap.ensures) ∙ c.rows_to_end.ensures.behind) in
    let counted = anchors_counted m c.requires.lawful s.target c.requires.there s.cond.now c.args.unit c.in-Some.driver.now c.in-Some.ensures in
    λ at above below.
    let within : at < length rows = omega (arith, below, counted) in
    none_behind m c.requires.lawful s.target c.requires.there s.cond.now c.args.unit c.in-Some.driver.now c.in-Some.ensures n behind at above within
