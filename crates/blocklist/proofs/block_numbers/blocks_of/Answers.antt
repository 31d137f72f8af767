use Rattle.std.proofs.Common.{ℕ, ◌≡◌, ◌+◌, ◌-◌, List, [], ◌∷◌, ◌++◌, Err, ⊎_elim, sym, ap, ◌∙◌, arith, length-append}
use Rattle.std.proofs.lemmas.Bool.Decides.{nat_tests}
use Rattle.std.proofs.lemmas.Result.{err_from_is_err_and}
use Rattle.std.specs.Iterator.Adapters.{zip_first, zip_second}
use Rattle.blocklist.specs.declared.fault.Fault.{Fault}
use Rattle.blocklist.specs.Elements.{named, numbers_or_fault}
use Rattle.blocklist.proofs.Naming.{names_end, names_stop, names_more, names_fault}
use Rattle.blocklist.proofs.block_numbers.blocks_of.Goals as goal

pub returns-in_err-checked : goal.returns-in_err-checked
returns-in_err-checked c =
    let index : ℕ = (zip_first c.loop-index.index-iterator).start in
    let rest : List ℕ = (zip_second c.loop-index.index-iterator).rest.now in
    let p = err_from_is_err_and c.from_residual.result c.from_residual.ensures.1 in
    let s = c.in-Some.ensures.steps in
    let e = c.in_err-checked.ensures ∙ ap (λ (i : ℕ). named i c.in-Some.element) s.0.1.1 in
    let f = names_fault c.loop-index.found.items rest _ index (4 - index) (4 - (index + 1)) c.in-Some.element c.in-Some.field-0-1-1 _ (omega arith) s.1.0 s.1.1 e in
    ap numbers_or_fault p.1 ∙ ap (λ (x : Fault). numbers_or_fault (Err x)) p.2 ∙ sym f ∙ c.loop-index.invariant.3

pub loop-index-preserved : goal.loop-index-preserved
loop-index-preserved c =
    let index : ℕ = (zip_first c.loop-index.index-iterator).start in
    let rest : List ℕ = (zip_second c.loop-index.index-iterator).rest.now in
    let block : ℕ = c.in_ok-checked.field-0 in
    let s = c.in-Some.ensures.steps in
    let n : (zip_first c.next.new.self).start ≡ index + 1 = s.0.1.2 in
    let e = c.in_ok-checked.ensures ∙ ap (λ (i : ℕ). named i c.in-Some.element) s.0.1.1 in
    let f = names_more c.loop-index.found.items rest _ index (4 - index) (4 - (index + 1)) c.in-Some.element c.in-Some.field-0-1-1 block (omega arith) s.1.0 s.1.1 e in
    let p : c.push.new.self.items ≡ c.loop-index.found.items ++ block ∷ [] = grind (arith, nat_tests) in
    (s.0.0 ∙ c.loop-index.invariant.0, omega arith, rw p (omega (arith, length-append c.loop-index.found.items (block ∷ []))), rw (p, n) (sym f ∙ c.loop-index.invariant.3))

pub returns : goal.returns
returns c =
    let index : ℕ = (zip_first c.loop-index.index-iterator).start in
    let rest : List ℕ = (zip_second c.loop-index.index-iterator).rest.now in
    sym (⊎_elim
    (λ s. names_end c.loop-index.found.items rest index (4 - index) (omega arith))
    (λ s. names_stop c.loop-index.found.items rest index (4 - index) s.1.0)
    c.in-None.ensures.steps)
    ∙ c.loop-index.invariant.3
