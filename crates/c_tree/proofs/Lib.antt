pub mod Decimals
pub mod ExpressionInduction
pub mod Numbers
pub mod PrintedStatements
pub mod Spellings
pub mod StatementInduction
pub mod UnplacedForms
pub mod UnplacedStatements
