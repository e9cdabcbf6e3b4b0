use Rattle.std.proofs.Common.{◌∙◌, ◌+◌, ◌-◌, ℕ, ◌≡◌, sym, ap, arith, drop, take, length, length-drop, refl}
use Rattle.ql_lex.specs.Forms.{whole_form}
use Rattle.ql_lex.specs.Answers.{seen_all}
use Rattle.ql_lex.proofs.Laws.{lexed_from-fault, behind_token, behind_nothing, whole_more, slices_widen, slices_word}
use Rattle.ql_lex.proofs.PlaceLaws.{malformed_behind}
use Rattle.ql_lex.proofs.reading.read_word.Goals as goal

same_width : (at n : ℕ) → n ≡ at + n - at
same_width at n = omega arith

pub returns-in-Err-clause-err : goal.returns-in-Err-clause-err
returns-in-Err-clause-err c =
    lexed_from-fault (drop c.args.at c.args.bytes.now) c.args.at c.in-Err.fault (omega (arith, length-drop c.args.at c.args.bytes.now))
    (ap whole_form (sym c.bytes_behind.ensures) ∙ c.in-Err.ensures.value)

pub returns-in-None-clause-ok : goal.returns-in-None-clause-ok
returns-in-None-clause-ok c =
    behind_nothing c.args.words.now.items c.args.bytes.now c.args.at c.in-Ok.found.0 c.in-None.is
    (ap whole_form (sym c.bytes_behind.ensures) ∙ c.in-Ok.ensures.value.0)
    c.in-Ok.ensures.within.0 (omega (arith, c.in-Ok.ensures.within.1, ap length c.bytes_behind.ensures))

pub returns-in_ok-push-in-Some-clause-ok : goal.returns-in_ok-push-in-Some-clause-ok
returns-in_ok-push-in-Some-clause-ok c =
    behind_token c.args.words.now.items c.push.new.self.items _ c.args.bytes.now c.args.at c.in-Ok.found.0
    c.in_ok-push-in-Some.ensures.items c.in-Some.is refl
    (c.in-Ok.ensures.value.1 ∙ ap (take c.in-Ok.found.0.len) c.bytes_behind.ensures)
    (ap whole_form (sym c.bytes_behind.ensures) ∙ c.in-Ok.ensures.value.0)
    c.in-Ok.ensures.within.0 (omega (arith, c.in-Ok.ensures.within.1, ap length c.bytes_behind.ensures))

pub returns-in-Err-clause-whole : goal.returns-in-Err-clause-whole
returns-in-Err-clause-whole c =
    λ front. whole_more c.args.bytes.now c.bytes_behind.result.now c.args.at c.in-Err.fault.at c.bytes_behind.ensures front c.in-Err.ensures.whole

pub returns-in-None-clause-slices : goal.returns-in-None-clause-slices
returns-in-None-clause-slices c =
    λ are. slices_widen c.args.bytes.now (seen_all c.args.words.now.items) 0 c.args.at (c.args.at + c.in-Ok.found.0.len) are (omega arith)

pub returns-in-None-clause-whole : goal.returns-in-None-clause-whole
returns-in-None-clause-whole c =
    λ front. whole_more c.args.bytes.now c.bytes_behind.result.now c.args.at c.in-Ok.found.0.len c.bytes_behind.ensures front c.in-Ok.ensures.whole

pub returns-in_ok-push-in-Some-clause-slices : goal.returns-in_ok-push-in-Some-clause-slices
returns-in_ok-push-in-Some-clause-slices c =
    slices_word c.args.bytes.now c.args.words.now.items c.push.new.self.items _ c.args.at (c.args.at + c.in-Ok.found.0.len)
    c.in_ok-push-in-Some.ensures.items refl
    (c.in-Ok.ensures.value.1 ∙ ap (take c.in-Ok.found.0.len) c.bytes_behind.ensures
    ∙ ap (λ (n : ℕ). take n (drop c.args.at c.args.bytes.now)) (same_width c.args.at c.in-Ok.found.0.len)) (omega (arith, c.in-Ok.ensures.within.0))

pub returns-in_ok-push-in-Some-clause-whole : goal.returns-in_ok-push-in-Some-clause-whole
returns-in_ok-push-in-Some-clause-whole c =
    λ front. whole_more c.args.bytes.now c.bytes_behind.result.now c.args.at c.in-Ok.found.0.len c.bytes_behind.ensures front c.in-Ok.ensures.whole

pub returns-in-Err-clause-place : goal.returns-in-Err-clause-place
returns-in-Err-clause-place c =
    λ front. λ e. malformed_behind c.args.bytes.now c.bytes_behind.result.now c.args.at c.in-Err.fault.at c.bytes_behind.ensures (omega arith) front (c.in-Err.ensures.place e)
