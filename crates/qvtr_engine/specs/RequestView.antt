-- The words of a command over a script and models in memory: the words behind the first two arguments bind names to paths.
use Rattle.std.specs.Prelude.{map}
use Rattle.qvtr_engine.specs.declared.check_request.CheckRequest.{CheckRequest}
use Rattle.qvtr_engine.specs.CheckWords.{CheckWords}
use Rattle.qvtr_engine.specs.RequestWords.{files_in}

abbrev pub request_view : CheckRequest → CheckWords
request_view r = record { script = r.script.now; target = r.target.now; files = files_in (map (λ s. s.now) r.arguments.items) }
