-- What a check asks, in memory.
use Rattle.answer_texts.specs.declared.asked.Asked.{Asked}
use Rattle.answer_texts.specs.Question.{Question}

abbrev pub asked_view : Asked → Question
asked_view a = record { metas = a.metas.now; program = a.program.now; models = a.models.now }
