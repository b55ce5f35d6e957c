mod AskedTwice
mod CheckedSchemas
mod SampledRefinements
