use Rattle.std.proofs.Common.{List, ℕ, ◌∙◌, cond, None, Some, sym, ap}
use Rattle.std.proofs.lemmas.Str.{is_utf8-from_IsUtf8}
use Rattle.model_files.proofs.JsonReadingLaws.{not_utf8}
use Rattle.model_files.proofs.json_reading.in_utf8.Goals as goal

pub returns-in-Ok : goal.returns-in-Ok
returns-in-Ok c =
    let bytes = c.args.bytes.now in
    ap (λ (s : List ℕ). Some s) c.in-Ok.ensures.cases.0 ∙ sym (ap (λ b. cond b (Some bytes) None) (is_utf8-from_IsUtf8 bytes c.in-Ok.ensures.cases.1))

pub returns-in-Err : goal.returns-in-Err
returns-in-Err c = let bytes = c.args.bytes.now in sym (ap (λ b. cond b (Some bytes) None) (not_utf8 bytes c.in-Err.ensures.cases.0))
