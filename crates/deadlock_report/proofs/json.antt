mod ObjectLemmas
