use Rattle.std.proofs.Common.{◌≡◌, ◌++◌, ℕ, List, subst, OnOk}
use Rattle.xmi_text.proofs.writing.Literals.{declaration_characters}
use Rattle.xmi_text.proofs.writer.push_declaration.Goals as goal

pub returns-clause-ok : goal.returns-clause-ok
returns-clause-ok c =
    let P : List ℕ → Type 0 = λ cs. OnOk c.push_str.result (c.push_str.new.self ≡ c.args.piece.now ++ cs) in
    subst P declaration_characters c.push_str.ensures.ok
