mod SplitFacts
