mod FirstFacts
mod FrontFacts
