mod LimitLaws
mod PairLaws
