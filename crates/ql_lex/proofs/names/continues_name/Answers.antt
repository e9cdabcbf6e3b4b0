use Rattle.std.proofs.Common.{false, ap, sym, ◌∙◌}
use Rattle.std.specs.Option.{option_map_or}
use Rattle.unicode_ident.specs.Ident.{is_xid_continue}
use Rattle.ql_lex.proofs.names.continues_name.Goals as goal

pub returns-in-Some : goal.returns-in-Some
returns-in-Some c = c.is_xid_continue.ensures.value ∙ ap (λ o. option_map_or is_xid_continue o false) (sym c.in-Some.is ∙ c.front_character.ensures)
