pub mod OfferLaws
