mod DecidedLemmas
