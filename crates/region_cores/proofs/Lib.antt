pub mod MadeCores
