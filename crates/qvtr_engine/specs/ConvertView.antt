-- The words of `convert` in memory.
use Rattle.qvtr_engine.specs.declared.convert_words.ConvertRequest.{ConvertRequest}
use Rattle.qvtr_engine.specs.ConvertWords.{ConvertWords}

abbrev pub convert_view : ConvertRequest → ConvertWords
convert_view r = record { form = r.form; metamodel = r.metamodel.now; model = r.model.now; output = r.output.now }
