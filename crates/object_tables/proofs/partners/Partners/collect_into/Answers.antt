use Rattle.std.proofs.Common.{◌≡◌, ◌++◌, ◌∷◌, ◌∙◌, [], ap, sym, append_assoc, length, take, true, false, arith}
use Rattle.std.specs.Prelude.{Result, Ok, Err, OnOk, OnErr}
use Rattle.std.specs.Result.{is_err}
use Rattle.std.proofs.lemmas.List.{length_push, take-append-le}
use Rattle.object_tables.proofs.partners.Partners.collect_into.Goals as goal

-- what holds where a result is `Ok`, or `Err`
ok_when : {T E : Type 0} (r : Result T E) {P : Type 0} → is_err r ≡ false → OnOk r P → P
ok_when (Ok x) e h = h
ok_when (Err x) e h = absurd cc

err_when : {T E : Type 0} (r : Result T E) {P : Type 0} → is_err r ≡ true → OnErr r P → P
err_when (Ok x) e h = absurd cc
err_when (Err x) e h = h

pub shorten-requires : goal.shorten-requires
shorten-requires c = rw (err_when c.push.result (sym c.is_err.ensures.value ∙ c.if-is_err.true) c.push.ensures.err) c.loop-partner.invariant.enough

pub returns-then-is_err-clause-err : goal.returns-then-is_err-clause-err
returns-then-is_err-clause-err c =
    c.shorten.ensures
    ∙ ap (take c.len-count.result) (err_when c.push.result (sym c.is_err.ensures.value ∙ c.if-is_err.true) c.push.ensures.err)
    ∙ c.loop-partner.invariant.before

pub loop-partner-preserved : goal.loop-partner-preserved
loop-partner-preserved c =
    let out = c.loop-partner.out in
    let pushed : c.push.new.self ≡ out ++ c.in-Some.partner ∷ [] = ok_when c.push.result (sym c.is_err.ensures.value ∙ c.if-is_err.false) c.push.ensures.ok in
    record {
      whole = ap (λ xs. xs ++ c.next.new.self) pushed ∙ append_assoc out (c.in-Some.partner ∷ []) c.next.new.self ∙ ap (λ xs. out ++ xs) (sym c.in-Some.ensures.steps) ∙ c.loop-partner.invariant.whole;
      before = ap (take c.len-count.result) pushed ∙ take-append-le c.len-count.result out (c.in-Some.partner ∷ []) c.loop-partner.invariant.enough ∙ c.loop-partner.invariant.before;
      enough = let n = ap length pushed in let m = length_push out c.in-Some.partner in let k = c.loop-partner.invariant.enough in omega arith;
    }
