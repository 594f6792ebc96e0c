mod DecimalLaws
mod PutLaws
mod WordLaws
