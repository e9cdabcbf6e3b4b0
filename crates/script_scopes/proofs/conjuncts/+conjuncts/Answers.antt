use Rattle.std.proofs.Common.{◌≡◌, List, [], ◌∷◌, ◌++◌, Bor, true, false, map, take, sym, ◌∙◌, ap, subst, arith, append_assoc}
use Rattle.std.specs.Prelude.{OnOk}
use Rattle.std.specs.List.{flat_map, list_all}
use Rattle.qv_syntax.specs.declared.expr.Expr.{Expr}
use Rattle.qv_syntax.specs.declared.expr.Expr.TheVariants as exprs
use Rattle.qv_syntax.specs.declared.expr.Infix.{Infix}
use Rattle.qv_syntax.specs.declared.expr.Postfix.{Postfix}
use Rattle.std.proofs.lemmas.Bool.{false≢true}
use Rattle.script_scopes.specs.Conjuncts.{behind, conjuncts}
use Rattle.script_scopes.proofs.RefusalLemmas.{given_then}
use Rattle.script_scopes.proofs.ConjunctLemmas.{behind_more, pushed, chain_alone, chain_split, conjuncts-Parens, conjuncts-Calls, called_alone, other_alone}
use Rattle.script_scopes.proofs.conjuncts.+conjuncts.Goals as goal

abbrev shown : List (Bor Expr) → List Expr
shown rs = map {A = Bor Expr} {B = Expr} (λ r. r.now) rs

abbrev all_behind : List Infix → List Expr
all_behind ls = flat_map (λ l. (behind l).conjuncts) ls

pub add_behind-loop-link-preserved : goal.add_behind-loop-link-preserved
add_behind-loop-link-preserved t c =
    let right : Expr = c.link-item.result.right in
    let so_far : List Infix = take c.loop-link.link-index c.args.links.now in
    c.in_ok-add_conjuncts.ensures ∙ ap (λ (es : List Expr). es ++ conjuncts right) c.loop-link.invariant
    ∙ append_assoc (shown c.args.out.now) (all_behind so_far) (conjuncts right)
    ∙ ap (λ (es : List Expr). shown c.args.out.now ++ es) (behind_more c.args.links.now c.loop-link.link-index c.link-item.result (omega arith) c.link-item.is)

pub add_conjuncts-returns-then-not-are_and : goal.add_conjuncts-returns-then-not-are_and
add_conjuncts-returns-then-not-are_and t c =
    let none : list_all (λ l. (behind l).is_and) c.in-Chain.rest ≡ false =
    sym (c.are_and.ensures ∙ ap (λ (ls : List Infix). list_all (λ l. (behind l).is_and) ls) c.as_slice.ensures) ∙ c.if-not-are_and.true in
    given_then c.push.result (c.push.new.self ≡ c.args.out.now ++ c.args.e ∷ []) (shown c.push.new.self ≡ shown c.args.out.now ++ conjuncts c.args.e.now)
    (pushed c.args.out.now c.push.new.self c.args.e (chain_alone c.args.e.now c.in-Chain.first c.in-Chain.rest c.in-Chain.span c.in-Chain.is none)) c.push.ensures.ok

pub add_conjuncts-returns-in_ok-add_conjuncts-in-Chain : goal.add_conjuncts-returns-in_ok-add_conjuncts-in-Chain
add_conjuncts-returns-in_ok-add_conjuncts-in-Chain t c =
    let all : list_all (λ l. (behind l).is_and) c.in-Chain.rest ≡ true =
    sym (c.are_and.ensures ∙ ap (λ (ls : List Infix). list_all (λ l. (behind l).is_and) ls) c.as_slice.ensures) ∙ c.if-not-are_and.false in
    let first : Expr = c.get.result.now in
    let rest : List Infix = c.as_slice-in-Chain.result.now in
    let same : conjuncts first ++ all_behind rest ≡ conjuncts c.args.e.now =
    ap (λ (x : Expr). conjuncts x ++ all_behind rest) c.get.ensures ∙ ap (λ (ls : List Infix). conjuncts c.in-Chain.first ++ all_behind ls) c.as_slice-in-Chain.ensures
    ∙ sym (chain_split c.args.e.now c.in-Chain.first c.in-Chain.rest c.in-Chain.span c.in-Chain.is all) in
    given_then c.add_behind.result (shown c.add_behind.new.out ≡ shown c.add_conjuncts.new.out ++ all_behind rest) (shown c.add_behind.new.out ≡ shown c.args.out.now ++ conjuncts c.args.e.now)
    (λ h. h ∙ ap (λ (es : List Expr). es ++ all_behind rest) c.in_ok-add_conjuncts-in-Chain.ensures ∙ append_assoc (shown c.args.out.now) (conjuncts first) (all_behind rest)
    ∙ ap (λ (es : List Expr). shown c.args.out.now ++ es) same) c.add_behind.ensures

pub add_conjuncts-returns-in-Parens : goal.add_conjuncts-returns-in-Parens
add_conjuncts-returns-in-Parens t c =
    subst (λ (es : List Expr). OnOk c.add_conjuncts-in-Parens.result (shown c.add_conjuncts-in-Parens.new.out ≡ shown c.args.out.now ++ es))
    (ap conjuncts c.get-in-Parens.ensures ∙ sym (conjuncts-Parens c.in-Parens.inner c.in-Parens.span) ∙ ap conjuncts (sym c.in-Parens.is)) c.add_conjuncts-in-Parens.ensures

pub add_conjuncts-returns-in_default : goal.add_conjuncts-returns-in_default
add_conjuncts-returns-in_default t c =
    given_then c.push-in_default.result (c.push-in_default.new.self ≡ c.args.out.now ++ c.args.e ∷ []) (shown c.push-in_default.new.self ≡ shown c.args.out.now ++ conjuncts c.args.e.now)
    (pushed c.args.out.now c.push-in_default.new.self c.args.e (other_alone c.args.e.now c.in_default.not-Chain c.in_default.not-Parens c.in_default.not-Calls)) c.push-in_default.ensures.ok

pub add_conjuncts-returns-then-is_empty : goal.add_conjuncts-returns-then-is_empty
add_conjuncts-returns-then-is_empty t c =
    let none : c.in-Calls.calls ≡ [] = c.is_empty.ensures.0 c.if-is_empty.true in
    let is : c.args.e.now ≡ exprs.Calls c.in-Calls.of [] c.in-Calls.span = c.in-Calls.is ∙ ap (λ (ks : List Postfix). exprs.Calls c.in-Calls.of ks c.in-Calls.span) none in
    subst (λ (es : List Expr). OnOk c.add_conjuncts-then-is_empty.result (shown c.add_conjuncts-then-is_empty.new.out ≡ shown c.args.out.now ++ es))
    (ap conjuncts c.get-then-is_empty.ensures ∙ sym (conjuncts-Calls c.in-Calls.of c.in-Calls.span) ∙ ap conjuncts (sym is)) c.add_conjuncts-then-is_empty.ensures

pub add_conjuncts-returns-else-is_empty : goal.add_conjuncts-returns-else-is_empty
add_conjuncts-returns-else-is_empty t c =
    given_then c.push-in-Calls.result (c.push-in-Calls.new.self ≡ c.args.out.now ++ c.args.e ∷ []) (shown c.push-in-Calls.new.self ≡ shown c.args.out.now ++ conjuncts c.args.e.now)
    (pushed c.args.out.now c.push-in-Calls.new.self c.args.e
    (called_alone c.args.e.now c.in-Calls.of c.in-Calls.calls c.in-Calls.span c.in-Calls.is (λ none. false≢true (sym c.if-is_empty.false ∙ c.is_empty.ensures.1 none)))) c.push-in-Calls.ensures.ok
