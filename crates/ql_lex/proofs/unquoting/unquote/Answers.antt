use Rattle.std.proofs.Common.{ℕ, List, [], ◌∷◌, false, fold, sym, ◌∙◌, ap}
use Rattle.std.proofs.lemmas.Str.{chars-nil}
use Rattle.std.proofs.lemmas.List.{map-id}
use Rattle.std.proofs.lemmas.List.Sums.{fold-append}
use Rattle.std.proofs.lemmas.Iterator.{YieldsList-from_chars}
use Rattle.std.proofs.lemmas.Iterator.Consumers.{YieldsList-end}
use Rattle.ql_lex.specs.declared.unquoting.Unquoted.{Unquoted}
use Rattle.ql_lex.specs.Unquoting.{passed, unquoted}
use Rattle.ql_lex.proofs.unquoting.unquote.Goals as goal

pub loop-c-init : goal.loop-c-init
loop-c-init c = ap (λ (t : List ℕ). record { text = t; opened = false; escaped = false }) (c.in_ok-new.ensures.characters ∙ chars-nil)

pub returns : goal.returns
unfolding unquoted
returns c =
    let t = YieldsList-end (YieldsList-from_chars c.args.token.now c.utf8.token cc) c.loop-c.yielded _ c.loop-c.yielded_by _ _ c.in-None.is c.next.ensures.steps in
    ap (λ (u : Unquoted). u.text) c.loop-c.invariant
    ∙ ap (λ (xs : List ℕ). (fold passed (record { text = []; opened = false; escaped = false }) xs).text) (sym (map-id c.loop-c.yielded) ∙ t.0)

pub loop-c-preserved : goal.loop-c-preserved
loop-c-preserved c =
    c.in_ok-pass.ensures ∙ ap (λ u. passed u c.in-Some.c) c.loop-c.invariant
    ∙ sym (fold-append passed (record { text = []; opened = false; escaped = false }) c.loop-c.yielded (c.in-Some.c ∷ []))
