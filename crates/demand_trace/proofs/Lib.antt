mod NameLaws
mod CutLaws
mod KeyLaws
mod SideLaws
mod TermLaws
mod EntryLaws
mod PremiseLaws
mod GivenLaws
