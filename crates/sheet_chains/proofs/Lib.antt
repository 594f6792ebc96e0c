mod ChainLaws
