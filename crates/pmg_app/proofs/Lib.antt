mod JobLemmas
mod ScriptLemmas
