-- The command that is read is the one in the words.
use Rattle.std.proofs.Common.{◌≡◌, ℕ, List, [], ◌∷◌, true, false, cond, refl, sym, ◌∙◌, ap, subst, Some, None, option_map}
use Rattle.std.specs.Prelude.{Result, Ok, Err, IfErr, codes}
use Rattle.std.proofs.lemmas.Option.{same_Some}
use Rattle.command_words.specs.declared.reading.WordsError.{WordsError}
use Rattle.command_words.specs.declared.reading.WordsError.TheVariants as errors
use Rattle.mof_metamodel.specs.Metamodels.{same_name}
use Rattle.qvtr_engine.specs.declared.mode.Mode.{Mode}
use Rattle.qvtr_engine.specs.declared.mode.Mode.TheVariants.{Check, Enforce, Trace}
use Rattle.qvtr_engine.specs.declared.command_name.CommandName.{CommandName}
use Rattle.qvtr_engine.specs.declared.command_name.CommandName.TheVariants.{Execute, Convert, Generate}
use Rattle.qvtr_engine.specs.Command.{Command, executes, converts, generates, IsCommand, IsUsage, command_in, command_of}
use Rattle.qvtr_engine.specs.CommandNames.{word_of, command_named, NamesCommand}
use Rattle.qvtr_engine.specs.ConvertWords.{convert_of}
use Rattle.qvtr_engine.specs.GenWords.{gen_of}
use Rattle.qvtr_engine.specs.Modes.{mode_name, mode_named}
use Rattle.qvtr_engine.specs.Reading.{◌>>=◌}
use Rattle.qvtr_engine.specs.RequestWords.{request_of}
use Rattle.qvtr_engine.proofs.ConvertLaws.{convert_found, convert_again}
use Rattle.qvtr_engine.proofs.GenWordLaws.{gen_found, gen_again}
use Rattle.qvtr_engine.proofs.ReadingLaws.{bind_some, mapped_some, same_is}
use Rattle.qvtr_engine.proofs.RequestWordLaws.{request_found, request_again}

-- ---- names

mode_found : (word : List ℕ) (mode : Mode) → mode_named word ≡ Some mode → word ≡ mode_name mode
mode_found word mode e =
    elim (same_name word (codes "check")) as (λ b. same_name word (codes "check") ≡ b
    → cond b (Some Check) (cond (same_name word (codes "enforce")) (Some Enforce) (cond (same_name word (codes "trace")) (Some Trace) None)) ≡ Some mode
    → word ≡ mode_name mode) [
      | true ↦ λ is f. let same : Check ≡ mode = cc in same_is word (codes "check") is ∙ ap mode_name same
      | false ↦ λ no f.
          elim (same_name word (codes "enforce")) as (λ b. same_name word (codes "enforce") ≡ b
          → cond b (Some Enforce) (cond (same_name word (codes "trace")) (Some Trace) None) ≡ Some mode → word ≡ mode_name mode) [
            | true ↦ λ is f. let same : Enforce ≡ mode = cc in same_is word (codes "enforce") is ∙ ap mode_name same
            | false ↦ λ no f.
                elim (same_name word (codes "trace")) as (λ b. same_name word (codes "trace") ≡ b → cond b (Some Trace) None ≡ Some mode → word ≡ mode_name mode) [
                  | true ↦ λ is f. let same : Trace ≡ mode = cc in same_is word (codes "trace") is ∙ ap mode_name same
                  | false ↦ λ is f. let gone : None ≡ Some mode = f in cc
                ] refl f
          ] refl f
    ] refl e

name_found : (word : List ℕ) (name : CommandName) → command_named word ≡ Some name → word ≡ word_of name
name_found word name e =
    elim (same_name word (codes "convert")) as (λ b. same_name word (codes "convert") ≡ b
    → cond b (Some Convert) (cond (same_name word (codes "gen")) (Some Generate) (option_map Execute (mode_named word))) ≡ Some name → word ≡ word_of name) [
      | true ↦ λ is f. let same : Convert ≡ name = cc in same_is word (codes "convert") is ∙ ap word_of same
      | false ↦ λ no f.
          elim (same_name word (codes "gen")) as (λ b. same_name word (codes "gen") ≡ b
          → cond b (Some Generate) (option_map Execute (mode_named word)) ≡ Some name → word ≡ word_of name) [
            | true ↦ λ is f. let same : Generate ≡ name = cc in same_is word (codes "gen") is ∙ ap word_of same
            | false ↦ λ no f. let p = mapped_some Execute (mode_named word) name f in mode_found word p.0 p.1 ∙ ap word_of p.2
          ] refl f
    ] refl e

name_again : (name : CommandName) → command_named (word_of name) ≡ Some name
name_again (Execute Check) = refl
name_again (Execute Enforce) = refl
name_again (Execute Trace) = refl
name_again Convert = refl
name_again Generate = refl

-- a first word that names a command
pub names_command : (word : List ℕ) (further : List (List ℕ)) (name : CommandName) → command_named word ≡ Some name → NamesCommand (word ∷ further)
names_command word further name e =
    record { name = name; further = further; named = ap (λ w. w ∷ further) (name_found word name e) }

-- ---- commands

found_in : (name : CommandName) (further : List (List ℕ)) (command : Command) → command_in name further ≡ Some command → IsCommand (word_of name ∷ further) command
found_in (Execute mode) further command e =
    let p = mapped_some (executes mode) (request_of further) command e in
    subst (IsCommand (mode_name mode ∷ further)) p.2 (request_found (mode_name mode) further p.0 p.1)
found_in Convert further command e =
    let p = mapped_some converts (convert_of further) command e in
    subst (IsCommand (codes "convert" ∷ further)) p.2 (convert_found further p.0 p.1)
found_in Generate further command e =
    let p = mapped_some generates (gen_of further) command e in
    subst (IsCommand (codes "gen" ∷ further)) p.2 (gen_found further p.0 p.1)

pub command_found : (words : List (List ℕ)) (command : Command) → command_of words ≡ Some command → IsCommand words command
command_found [] command e = let gone : None ≡ Some command = e in cc
command_found (word ∷ further) command e =
    let p = bind_some (command_named word) (λ name. command_in name further) command e in
    subst (λ w. IsCommand (w ∷ further) command) (sym (name_found word p.0 p.1)) (found_in p.0 further command p.2)

named_again : (name : CommandName) (further : List (List ℕ)) → command_of (word_of name ∷ further) ≡ command_in name further
named_again name further = ap (λ o. o >>= λ n. command_in n further) (name_again name)

pub command_again : (words : List (List ℕ)) (command : Command) → IsCommand words command → command_of words ≡ Some command
command_again words (executes mode w) h =
    ap command_of h.named ∙ named_again (Execute mode) h.further ∙ ap (option_map (executes mode)) (request_again (mode_name mode) words w h)
command_again words (converts c) h = ap command_of h.named ∙ named_again Convert h.further ∙ ap (option_map converts) (convert_again words c h)
command_again words (generates g) h = ap command_of h.named ∙ named_again Generate h.further ∙ ap (option_map generates) (gen_again words g h)

-- words have one command
pub one_command : (words : List (List ℕ)) (one other : Command) → IsCommand words one → IsCommand words other → one ≡ other
one_command words one other a b = same_Some one other (sym (command_again words one a) ∙ command_again words other b)

pub none_some : (c : Command) → None ≡ Some c → ⊥
none_some c e = cc

-- words in which there is no command
pub no_command_usage : (words : List (List ℕ)) → command_of words ≡ None → IsUsage words
no_command_usage words e command h = none_some command (sym e ∙ command_again words command h)

-- an error that comes behind a command's name
pub named_error : {T : Type 0} (words : List (List ℕ)) (r : Result T WordsError) → NamesCommand words → IfErr r (λ e. e ≡ errors.NoMemory → NamesCommand words)
named_error words (Ok x) named = tt
named_error words (Err e) named = λ is. named
