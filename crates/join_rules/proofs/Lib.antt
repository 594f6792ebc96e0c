mod RuleLaws
