mod WrittenLemmas
mod SaysLemmas
mod RunningLemmas
mod StageLemmas
mod LogLemmas
