mod TokenSizes
mod ConjunctSizes
mod ClauseSizes
mod ProgramSizes
