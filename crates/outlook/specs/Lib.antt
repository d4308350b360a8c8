pub mod Outlooks
pub mod GraphViews
pub mod GraphLaws
pub mod OpenViews
