-- What `gen` is answered: the summary of the example.
use Rattle.std.specs.Prelude.{◌≡◌, ◌⊎◌, ℕ, List, Option}
use Rattle.example_run.specs.declared.summary.Summary.{Summary}
use Rattle.example_run.specs.Examples.{IsSummary}
use Rattle.qvtr_engine.specs.declared.gen_words.GenRequest.{GenRequest}
use Rattle.qvtr_engine.specs.declared.status.Status.{Status}
use Rattle.qvtr_engine.specs.declared.status.Status.TheVariants.{Done, NoMemory}
use Rattle.qvtr_engine.specs.Outcome.{Finishes}
use Rattle.qvtr_engine.specs.Reply.{Reply, generated, no_memory_text}
use Rattle.qvtr_engine.specs.Summaries.{summary_text}

pub data GenAnswer (g : GenRequest) : Reply → Type 0 where
  summarized : (s : Summary) → IsSummary g.classes g.seed s → GenAnswer g (generated s)

-- the text is that of the summary
pub record IsGenerated (g : GenRequest) (text : List ℕ) : Type 0 where
  pub summary : Summary
  pub is : IsSummary g.classes g.seed summary
  pub text_is : text ≡ summary_text summary

-- the summary was printed, or that memory could not be had; or the sink faulted
abbrev pub GenerationEnds : GenRequest → Option (List ℕ) → Option (List ℕ) → Type 0 → Status → Type 0
GenerationEnds g before after faulted result =
    ((text : List ℕ) × IsGenerated g text × Finishes Done text before after faulted result)
    ⊎ Finishes NoMemory no_memory_text before after faulted result
