use Rattle.std.proofs.Common.{ap, ap₂, ℕ, arith}
use Rattle.std.specs.Iterator.Adapters.{take_source, take_count}
use Rattle.blocklist.proofs.Reading.{turn, read_ends}
use Rattle.blocklist.proofs.block_list.read_list.Goals as goal

pub loop-width-preserved : goal.loop-width-preserved
loop-width-preserved c =
    let s = c.in-Some.ensures.steps in
    let t = turn (take_count c.loop-width.width-iterator) (take_count c.next.new.self) (take_source c.loop-width.width-iterator).rest.now (take_source c.next.new.self).rest.now _ _ (omega arith) s.0.0 s.0.1 in
    (omega arith, omega (arith, t.within), omega (arith, t.count), omega (arith, t.taken))

pub returns-clause-value : goal.returns-clause-value
returns-clause-value c =
    let e = read_ends (take_count c.loop-width.width-iterator) (take_source c.loop-width.width-iterator).rest.now _ c.in-None.ensures.steps in
    let a = ap (λ (p : ℕ × ℕ). p.0) e in
    let b = ap (λ (p : ℕ × ℕ). p.1) e in
    ap₂ (λ x y. (x, y)) (omega (arith, a)) (omega (arith, b))
